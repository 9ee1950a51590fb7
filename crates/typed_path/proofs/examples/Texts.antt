-- Which components and prefixes are texts in UTF-8, computed by every check.
use Rattle.std.proofs.Common.{◌≡◌, true, false, [], ◌∷◌, None, refl, codes}
use Rattle.std.specs.Str.{is_utf8, chars}
use Rattle.std.proofs.Math.Utf8.{encode}
use Rattle.typed_path.specs.components.{unix, verbatim_unc, disk, name_part, prefix_part, parts_of}
use Rattle.typed_path.specs.texts.{is_text_option, is_text_prefix, is_text_part, are_text_parts}

-- a name in UTF-8, and a name that ends within a character
name_is_text : is_text_part (name_part (195 ∷ 169 ∷ [])) ≡ true
unfolding is_utf8 chars encode
name_is_text = refl

name_is_none : is_text_part (name_part (97 ∷ 195 ∷ [])) ≡ false
unfolding is_utf8 chars encode
name_is_none = refl

-- the drive of the byte E9 has no name, and its raw text is none
drive_is_text : is_text_prefix (disk 233) ≡ true
drive_is_text = refl

drive_component_is_none : is_text_part (prefix_part (disk 233) (233 ∷ 58 ∷ [])) ≡ false
unfolding is_utf8 chars encode
drive_component_is_none = refl

-- a share is a text where both of its names are
share_is_none : is_text_prefix (verbatim_unc (codes "s") (233 ∷ [])) ≡ false
unfolding is_utf8 chars encode
share_is_none = refl

-- nothing is a text like any other
nothing_is_text : is_text_option None ≡ true
nothing_is_text = refl

-- the components of `é/.` on Unix, and those of `/` and the byte FF
text_components : are_text_parts (parts_of unix (195 ∷ 169 ∷ 47 ∷ 46 ∷ [])) ≡ true
unfolding is_utf8 chars encode
text_components = refl

other_components : are_text_parts (parts_of unix (47 ∷ 255 ∷ [])) ≡ false
unfolding is_utf8 chars encode
other_components = refl
