-- `\\?\UNC\srv\share\x`, cut after each of its bytes.
use Rattle.std.proofs.Common.{◌≡◌, ℕ, codes, List, [], ◌∷◌, take, refl}
use Rattle.typed_path.specs.components.{windows, Part, verbatim, verbatim_unc, unc, parts_of}
use Rattle.typed_path.proofs.examples.Words.{windows_root, named, written}

abbrev cut : ℕ → List Part
cut n = parts_of windows (take n (codes "\\\\?\\UNC\\srv\\share\\x"))

-- nothing, and the separators
cut_after_0 : cut 0 ≡ []
cut_after_0 = refl

cut_after_1 : cut 1 ≡ windows_root ∷ []
cut_after_1 = refl

cut_after_2 : cut 2 ≡ windows_root ∷ []
cut_after_2 = refl

-- a server named `?`
cut_after_3 : cut 3 ≡ written (unc (codes "?") []) "\\\\?" ∷ []
cut_after_3 = refl

cut_after_4 : cut 4 ≡ written (unc (codes "?") []) "\\\\?\\" ∷ []
cut_after_4 = refl

-- a verbatim name
cut_after_5 : cut 5 ≡ written (verbatim (codes "U")) "\\\\?\\U" ∷ []
cut_after_5 = refl

cut_after_6 : cut 6 ≡ written (verbatim (codes "UN")) "\\\\?\\UN" ∷ []
cut_after_6 = refl

cut_after_7 : cut 7 ≡ written (verbatim (codes "UNC")) "\\\\?\\UNC" ∷ []
cut_after_7 = refl

cut_after_8 : cut 8 ≡ written (verbatim (codes "UNC")) "\\\\?\\UNC" ∷ windows_root ∷ []
cut_after_8 = refl

-- a server, and no share
cut_after_9 : cut 9 ≡ written (verbatim_unc (codes "s") []) "\\\\?\\UNC\\s" ∷ []
cut_after_9 = refl

cut_after_10 : cut 10 ≡ written (verbatim_unc (codes "sr") []) "\\\\?\\UNC\\sr" ∷ []
cut_after_10 = refl

cut_after_11 : cut 11 ≡ written (verbatim_unc (codes "srv") []) "\\\\?\\UNC\\srv" ∷ []
cut_after_11 = refl

cut_after_12 : cut 12 ≡ written (verbatim_unc (codes "srv") []) "\\\\?\\UNC\\srv\\" ∷ []
cut_after_12 = refl

-- a share
cut_after_13 : cut 13 ≡ written (verbatim_unc (codes "srv") (codes "s")) "\\\\?\\UNC\\srv\\s" ∷ []
cut_after_13 = refl

cut_after_14 : cut 14 ≡ written (verbatim_unc (codes "srv") (codes "sh")) "\\\\?\\UNC\\srv\\sh" ∷ []
cut_after_14 = refl

cut_after_15 : cut 15 ≡ written (verbatim_unc (codes "srv") (codes "sha")) "\\\\?\\UNC\\srv\\sha" ∷ []
cut_after_15 = refl

cut_after_16 : cut 16 ≡ written (verbatim_unc (codes "srv") (codes "shar")) "\\\\?\\UNC\\srv\\shar" ∷ []
cut_after_16 = refl

cut_after_17 : cut 17 ≡ written (verbatim_unc (codes "srv") (codes "share")) "\\\\?\\UNC\\srv\\share" ∷ []
cut_after_17 = refl

-- and what stands behind it
cut_after_18 : cut 18 ≡ written (verbatim_unc (codes "srv") (codes "share")) "\\\\?\\UNC\\srv\\share" ∷ windows_root ∷ []
cut_after_18 = refl

cut_after_19 : cut 19 ≡ written (verbatim_unc (codes "srv") (codes "share")) "\\\\?\\UNC\\srv\\share" ∷ windows_root ∷ named "x" ∷ []
cut_after_19 = refl
