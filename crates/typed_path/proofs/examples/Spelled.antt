-- Texts of Windows that a push spells anew as they stand.
use Rattle.std.proofs.Common.{refl, codes}
use Rattle.typed_path.specs.changes.{IsSpelled}

drive : IsSpelled (codes "\\\\?\\C:")
drive = (refl, refl)

drive-root : IsSpelled (codes "\\\\?\\C:\\")
drive-root = (refl, refl)

drive-names : IsSpelled (codes "\\\\?\\C:\\a\\..\\.\\b/c")
drive-names = (refl, refl)

drive-slashes : IsSpelled (codes "//?/C:\\a")
drive-slashes = (refl, refl)

drive-slashes-root : IsSpelled (codes "//?/C:\\")
drive-slashes-root = (refl, refl)

share : IsSpelled (codes "\\\\?\\UNC\\s\\h\\a")
share = (refl, refl)

share-root : IsSpelled (codes "\\\\?\\UNC\\s\\h\\")
share-root = (refl, refl)

server : IsSpelled (codes "\\\\?\\UNC\\s")
server = (refl, refl)

server-separator : IsSpelled (codes "\\\\?\\UNC\\s\\")
server-separator = (refl, refl)

server-root : IsSpelled (codes "\\\\?\\UNC\\s\\\\")
server-root = (refl, refl)

unc : IsSpelled (codes "\\\\?\\UNC")
unc = (refl, refl)

unc-root : IsSpelled (codes "\\\\?\\UNC\\")
unc-root = (refl, refl)

no_name : IsSpelled (codes "\\\\?\\\\")
no_name = (refl, refl)
