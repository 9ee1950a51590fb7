use Rattle.std.proofs.Common.{◌≡◌, map}
use Rattle.typed_path.specs.changes.{push_all, IsKnown}
use Rattle.typed_path.specs.views.TextViews.{utf8_bytes}
use Rattle.typed_path.proofs.utf8.path_buf.Utf8PathBufExtendUtf8Path.extend.Given as goal

abbrev pub invariant-paths : goal.invariant-paths
invariant-paths g l = record {
  pushed : l.self.bytes ≡ push_all g.T.Bytes.Encoding.dialect l.fn.self.bytes (map utf8_bytes l.yielded);
  known : IsKnown g.T.Bytes.Encoding.dialect l.known l.self.bytes;
}
