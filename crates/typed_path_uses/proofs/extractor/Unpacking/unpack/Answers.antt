use Rattle.std.proofs.Common.{◌≡◌, sym, Some}
use Rattle.std.proofs.lemmas.List.Elements.{All-push}
use Rattle.typed_path.specs.changes.{fault}
use Rattle.typed_path_uses.proofs.extractor.Unpacking.unpack.Goals as goal

pub returns-in_ok-push-in-Err-Checked-clause-refused : goal.returns-in_ok-push-in-Err-Checked-clause-refused
returns-in_ok-push-in-Err-Checked-clause-refused g c =
    let offends = sym (rw c.in-Err-Checked.field-0-is at c.in-Err-Checked.ensures.refused) in
    λ was. rw c.in_ok-push-in-Err-Checked.ensures.items (All-push (λ r. fault g.T.Encoding.dialect r.name.now ≡ Some r.fault) c.args.self.now.refused.items _ was offends)
