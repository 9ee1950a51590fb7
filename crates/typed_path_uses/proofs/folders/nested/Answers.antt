use Rattle.std.proofs.Common.{◌≡◌, ◌∙◌, None, ap, subst, sym}
use Rattle.typed_path.specs.changes.{fault, push}
use Rattle.typed_path.specs.promises.{KeepsAgain, StaysWithin}
use Rattle.typed_path.specs.views.PathViews.{path_bytes}
use Rattle.typed_path_uses.proofs.Held.{base-held, pushed-held}
use Rattle.typed_path_uses.proofs.folders.nested.Goals as goal

pub names-init : goal.names-init
names-init g c = base-held g.T.Encoding.dialect (path_bytes c.args.base) _ c.in_ok-path.ensures.bytes

pub names-preserved : goal.names-preserved
names-preserved g c =
    let d = g.T.Encoding.dialect in
    let step = c.in_ok-push_checked.ensures in
    let law = c.joined_is_within.ensures in
    let old = c.as_bytes.ensures ∙ c.as_path.ensures in
    let name = sym c.new.ensures in
    let accepted = ap (fault d) name ∙ sym step.refused in
    let stays = subst (λ o. StaysWithin d o (push d o (path_bytes c.new.result))) old (subst (λ n. StaysWithin d c.as_bytes.result.now (push d c.as_bytes.result.now n)) name (law.kept accepted)) in
    let again = subst (λ o. KeepsAgain d o (push d o (path_bytes c.new.result))) old (subst (λ n. KeepsAgain d c.as_bytes.result.now (push d c.as_bytes.result.now n)) name (law.again accepted)) in
    pushed-held d (path_bytes c.args.base) c.names.path.bytes (path_bytes c.new.result) c.push_checked.new.self.bytes stays again step.ok c.names.invariant
