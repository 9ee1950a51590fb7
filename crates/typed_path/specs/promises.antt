-- What is promised of paths.
pub mod Promises
pub mod Joins
pub mod Crossings
pub mod Below
pub mod CleanForms
pub mod Relative
pub mod Extended
pub mod Shared
pub mod Simplified
pub use Rattle.typed_path.specs.promises.Below.{IsBelow, IsWithinExactly, JoinsWithin, KeepsAgain, LeadsBelow, LiesBelow, StaysWithin}
pub use Rattle.typed_path.specs.promises.CleanForms.{AreCleanAlike, CleanLeadsAlike, HasCleanForm, IsCleanForm, LeadAlike}
pub use Rattle.typed_path.specs.promises.Crossings.{CrossesAsItIs, CrossesBack, CrossesToUnix, CrossesWhereAllowed, lack_backslash, on_unix, parents_and_names}
pub use Rattle.typed_path.specs.promises.Extended.{ExtendsName, IsNamedBeside}
pub use Rattle.typed_path.specs.promises.Joins.{JoinAppends, StripJoins, without_leading_current}
pub use Rattle.typed_path.specs.promises.Promises.{HasNormalForm, HasPrefixOf, HashAlike, IsCanonical, IsCanonicalForm, IsStableForm, LiesWithin, ReadsAsResolved, StaysNormal, StaysStable, count, fed, fed_length, is_verbatim_unc_name, keeps_by_prefix, keeps_prefix, prefix_kind, with_drive_root, words_by_kind}
pub use Rattle.typed_path.specs.promises.Relative.{HasNone, HasNoneAtAll, HasNoneOnUnix, IsDotAlike, IsRelative, IsUnreached, LeadsBack, LeadsBackBehindClean, LeadsBackOnWindows, StaysRelative, apart, higher, names_at_end, unreadable}
pub use Rattle.typed_path.specs.promises.Shared.{BeginsWithAll, IsLongest, ShareNothing}
pub use Rattle.typed_path.specs.promises.Simplified.{IsAlikeBehind}
