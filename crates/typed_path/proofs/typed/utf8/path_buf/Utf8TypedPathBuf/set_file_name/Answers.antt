use Rattle.typed_path.proofs.typed.utf8.path_buf.Utf8TypedPathBuf.set_file_name.Goals as goal

pub returns-in-Windows-clause-named : goal.returns-in-Windows-clause-named
returns-in-Windows-clause-named c =
    let named = c.set_file_name-in-Windows.ensures in
    rw c.in-Windows.is ((named.ok, named.err, named.capacity), named.succeeds)
