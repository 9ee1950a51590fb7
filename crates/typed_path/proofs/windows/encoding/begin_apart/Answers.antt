use Rattle.std.proofs.Common.{rules, sym, ◌∙◌}
use Rattle.std.proofs.lemmas.Bool.{not-true}
use Rattle.typed_path.proofs.lemmas.queries.FirstBytes.{begin-apart, mark-apart}
use Rattle.typed_path.proofs.windows.encoding.begin_apart.Goals as goal

pub returns-then-not-are_separators : goal.returns-then-not-are_separators
returns-then-not-are_separators c = λ told. begin-apart c.args.path.now c.args.other.now (search rules) (search rules) c.if-own-wanted.true (sym c.are_separators.ensures ∙ c.if-not-are_separators.true)

pub returns-in-Some-Some : goal.returns-in-Some-Some
returns-in-Some-Some c = λ told.
    let own = c.in-Some-Some.ensures in
    let wanted = c.in-Some-Some.ensures' in
    mark-apart c.args.path.now c.args.other.now c.in-Some-Some.own c.in-Some-Some.other own.1.0 wanted.1.0 own.1.1 own.0 wanted.1.1 wanted.0 (not-true _ told)
