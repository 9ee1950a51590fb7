use Rattle.std.proofs.Common.{sym, arith}
use Rattle.std.proofs.lemmas.List.{take_rest}
use Rattle.typed_path.proofs.lemmas.queries.FileNames.{stem-whole, extension-none, stem-before, extension-behind}
use Rattle.typed_path.proofs.scan.stems.split_name.Goals as goal

pub returns-in_default-clause-stem : goal.returns-in_default-clause-stem
returns-in_default-clause-stem c = sym (stem-whole c.args.name.now (λ k low high. c.in_default.ensures k (omega arith) high))

pub returns-in_default-clause-extension : goal.returns-in_default-clause-extension
returns-in_default-clause-extension c = sym (extension-none c.args.name.now (λ k low high. c.in_default.ensures k (omega arith) high))

pub returns-then-at-eq0-clause-stem : goal.returns-then-at-eq0-clause-stem
returns-then-at-eq0-clause-stem c = sym (stem-whole c.args.name.now (λ k low high. c.in-Some.ensures.0.after k (omega arith) high))

pub returns-then-at-eq0-clause-extension : goal.returns-then-at-eq0-clause-extension
returns-then-at-eq0-clause-extension c = sym (extension-none c.args.name.now (λ k low high. c.in-Some.ensures.0.after k (omega arith) high))

pub returns-clause-stem : goal.returns-clause-stem
returns-clause-stem c = sym (stem-before c.args.name.now c.in-Some.at (omega arith) c.in-Some.ensures.0 c.in-Some.ensures.1)

pub returns-clause-extension : goal.returns-clause-extension
returns-clause-extension c = grind (arith, take_rest, extension-behind)
