-- What changes a path.
-- Faults: a path judged component by component, what holds of one that is not refused, and the place of a list with more behind it (`IsHarmlessPart`, `IsHarmlessPiece`, `IsFaultless`)
-- ValidPaths: paths of Windows of which looks at their bytes tell that they have no fault, or that a name is it: by the bytes that devices begin with, the search for devices behind separators, and two dots side by side
-- MayBegins: marks of separators behind which a device may stand, and the search by them (`BeginsNone`, `TellsBegins`)
-- Joins: what is put between a base of Windows and what comes behind it, a list merged into another, and lists spelled and read again (`HasEnding`, `IsPiece`, `Ending`)
-- WindowsPushes: what a push of Windows asks of its base and of its end, which paths it puts behind that, and what stands behind a prefix that is written anew (`FitsPush`, `IsPutBehind`, `IsListEnded`)
-- SpelledTexts: a text of Windows that is spelled as it is read, and what a push writes anew (`IsSpelled`, `IsUnprefixed`, `IsMerging`, `Behind`)
-- NamePieces: texts of which looks at their bytes tell that all their pieces are names, how such a text is merged, and how it is written behind another with a `\` between them (`IsOpened`, `IsClosed`, `AreLed`)
-- MergedInPlace: components as they are read, merged behind a prefix, and read again (`AreReadBehind`, `IsStanding`, `IsRooted`, `IsBased`, `ArePut`)
-- Lengths: how long a path is that another is pushed onto, and what joins two components
-- SpelledLengths: how long a text of Windows is that is spelled anew (`IsDriven`, `IsMarked`, `IsHeaded`)
-- PushLengths: how long a path is onto which others are pushed one by one: the normal text of a path, a path in another dialect, and one made absolute (`Takes`, `IsTaken`, `Costs`)
-- Runs: lists of operations, one operation more; and room that is enough stays so where it grows (`FitsStep`, `FitsAll`)
-- AddedNames: a path with more behind its file name is read as before, but for that name (`IsNameAt`, `KeepsFront`)
-- AddedFronts: a path that gets one extension more keeps its separators and its prefix, but for the verbatim one named `UNC`; so it has its parent, and a longer name (`KeepsFront`)
pub mod Faults
pub mod ValidPaths
pub mod MayBegins
pub mod Joins
pub mod WindowsPushes
pub mod SpelledTexts
pub mod NamePieces
pub mod MergedInPlace
pub mod Lengths
pub mod SpelledLengths
pub mod PushLengths
pub mod Runs
pub mod AddedNames
pub mod AddedFronts
