use Rattle.std.proofs.Common.{◌≡◌, ℕ, List, ap}
use Rattle.typed_path.specs.components.{Dialect, unix, windows, kinds, parts_of}
use Rattle.typed_path.specs.places.{normal_text}
use Rattle.typed_path.specs.promises.{HasNormalForm}
use Rattle.typed_path_uses.specs.Tree.{IsKeyOf}
use Rattle.typed_path_uses.proofs.tree.key_of.Goals as goal

-- a normal text is read as what its path is filed under
key-filed : (d : Dialect) (path key : List ℕ) → key ≡ normal_text d path → HasNormalForm d path key → IsKeyOf d path key
key-filed unix path key is form = ap kinds form.reads
key-filed windows path key is form = ap (λ t. kinds (parts_of windows t)) is

pub returns : goal.returns
returns g c = key-filed g.T.Encoding.dialect _ _ c.in_ok-normalize.ensures.text c.in_ok-normalize.ensures.form
