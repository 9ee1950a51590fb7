-- What a text is made of.
-- Segments: segments, what stands before the first separator, a body taken apart at a separator, the components read off its pieces, also of a text with more put behind a separator at its end, and the first component of a clean text (`Seen`, `AreRead`, `IsLater`, `IsWritten`, `IsCleanName`)
-- Prefixes: the prefix of a Windows text: its separators and root, how many bytes it takes, its cases, their marks and what each was read from (`FoundFits`, `ReadsMark`, `IsBehindMark`, `Read`, `IsFront`, `OfWindows`)
-- Cuts: where the components of a text begin and end, how many they are, and what is read before and behind such a place (`TakesSegment`, `StartCut`)
-- PrefixCuts: the names of a prefix, a Windows text that is cut behind its prefix, how many bytes a prefix takes of it, which texts begin with `\\?\`, as their prefixes tell; and what a text is read as with a prefix and without one, and whether its list begins with a verbatim one (`KeepsNames`, `IsSize`, `SamePrefix`, `IsBehind`, `Keeps`, `IsUnended`)
-- FirmPrefixes: a prefix stays where its text is cut behind it and something put apart behind that (`Extends`, `HasNamesOf`, `Apart`)
-- PartedPrefixes: a prefix with more of its text behind it: where it ends, and what stands right behind it; and texts of a drive, or of another prefix that is not verbatim, are not read verbatim (`FirmEnd`, `RootBehind`, `IsPartedEither`)
-- WrittenForms: components are written as their kinds tell, roots as their dialect writes them, and where prefixes and roots stand in a list (`WritesBody`)
-- WindowsNames: names that are read as names in each Windows text, alone and pushed one by one; a list as it is read that stays (`IsPlain`, `Resolved`, `IsHead`)
-- PrefixNames: where the names of a prefix stand in the path that begins with it (`AreNamesOf`)
pub mod Segments
pub mod Prefixes
pub mod Cuts
pub mod PrefixCuts
pub mod FirmPrefixes
pub mod PartedPrefixes
pub mod WrittenForms
pub mod WindowsNames
pub mod PrefixNames
