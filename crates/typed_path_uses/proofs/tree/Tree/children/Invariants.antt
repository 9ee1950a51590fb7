use Rattle.std.proofs.Common.{◌≡◌, ◌++◌, map, filter}
use Rattle.typed_path.specs.queries.{is_child_of}
use Rattle.typed_path.specs.views.PathViews.{path_bytes}
use Rattle.typed_path_uses.specs.Tree.{filed, children_of}
use Rattle.typed_path_uses.proofs.tree.Tree.children.Given as goal

abbrev pub invariant-keys : goal.invariant-keys
invariant-keys g l =
    let d = g.T.Encoding.dialect in
    let folder = path_bytes l.fn.folder in
    map path_bytes l.children.items ++ filter (is_child_of d (filed d folder)) (map (λ k. k.bytes) l.key-iterator) ≡ children_of d folder l.self.files
