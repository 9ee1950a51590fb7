use Rattle.std.proofs.Common.{◌≡◌, map}
use Rattle.typed_path.specs.changes.{push_all, IsKnown}
use Rattle.typed_path.specs.views.PathViews.{path_bytes}
use Rattle.typed_path.proofs.common.path_buf.PathBufExtendPath.extend.Given as goal

abbrev pub invariant-paths : goal.invariant-paths
invariant-paths g l = record {
  pushed : l.self.bytes ≡ push_all g.T.Encoding.dialect l.fn.self.bytes (map path_bytes l.yielded);
  known : IsKnown g.T.Encoding.dialect l.known l.self.bytes;
}
