use Rattle.typed_path.proofs.typed.utf8.path.Utf8TypedPath.cmp_ignore_ascii_case.Goals as goal

pub returns-in-Windows-Windows : goal.returns-in-Windows-Windows
returns-in-Windows-Windows c = rw (c.in-Windows-Windows.is-0, c.in-Windows-Windows.is-1) c.cmp_ignore_ascii_case-in-Windows-Windows.ensures
