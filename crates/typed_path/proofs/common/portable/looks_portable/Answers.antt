use Rattle.std.proofs.Common.{◌≡◌, None, sym, subst, ◌∙◌}
use Rattle.typed_path.specs.components.{body, kinds, parts}
use Rattle.typed_path.specs.queries.{kinds_fault}
use Rattle.typed_path.proofs.lemmas.queries.Portable.{told_bare}
use Rattle.typed_path.proofs.common.portable.looks_portable.Goals as goal

pub returns-then-not-begins_with_two : goal.returns-then-not-begins_with_two
returns-then-not-begins_with_two g c =
    let path = c.args.path.now in
    let plain = c.are_plain_names-then-not-begins_with_two.ensures in
    λ told. told_bare g.T.Encoding.dialect path (sym c.begins_with_two.ensures ∙ c.if-not-begins_with_two.true) (plain.free told)
    (subst (λ s. kinds_fault (kinds (parts (body s 0 path))) ≡ None) c.bare_separators.ensures (plain.names 0 told))
