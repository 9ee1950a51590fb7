use Rattle.std.proofs.Common.{subst, OnOk}
use Rattle.typed_path.specs.promises.{HasPrefixOf}
use Rattle.typed_path.proofs.utf8.path_buf.Utf8PathBuf.push_checked.Goals as goal

pub returns-clause-prefix : goal.returns-clause-prefix
returns-clause-prefix g c =
    subst (λ o. OnOk c.push_checked.result (HasPrefixOf g.T.Bytes.Encoding.dialect o.bytes c.push_checked.new.self.bytes)) c.self.view_is c.push_checked.ensures.prefix
