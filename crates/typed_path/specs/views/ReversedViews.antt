-- The view of an iterator that is read from its end.
use Rattle.typed_path.specs.declared.common.components.Reversed.{Reversed}

-- the iterator that it reads
abbrev pub reversed_source : {I : Type 0} → Reversed I → I
reversed_source r = r.source
