use Rattle.std.proofs.Common.{◌≡◌, ◌≤◌, List, length, Option, Some, None, arith, ℕ, IfSome}
use Rattle.typed_path.specs.components.{windows, Found, prefix_of}
use Rattle.typed_path.specs.changes.{raw_length, IsSpelledHead}
use Rattle.typed_path.proofs.lemmas.components.Prefixes.{prefix-fits}
use Rattle.typed_path.proofs.windows.push.known_head.Goals as goal

-- the prefix of a text takes no more bytes than that has
fits : (t : List ℕ) → raw_length (prefix_of windows t) ≤ length t
fits t = by (prefix_of windows t) (λ i. prefix_of windows t)
  where
    by : (o : Option Found) → prefix_of windows t ≡ o → raw_length o ≤ length t
    by None e = omega arith
    by (Some f) e = (prefix-fits windows t f e).fits

within : (r : Option ℕ) (t : List ℕ) → IsSpelledHead r t → IfSome r (λ head. head ≤ length t)
within r t h = grind (arith, fits)

pub returns-in_default-clause-within : goal.returns-in_default-clause-within
returns-in_default-clause-within c = within c.spelled_head.result c.args.base.now c.spelled_head.ensures
