-- What is promised of paths.
-- UnixContained: the normal text of Unix, which is its own normal text, a relative path joined on Unix, and where a checked one leads (`HasPrefixOf`)
-- WindowsBases: where a base of Windows leads with a faultless path behind it, and how a list is spelled behind a prefix (`Rest`)
-- WindowsContained: a checked push on Windows stays within its base, and the bases that keep their prefix (`LiesWithin`, `Ending`)
-- Within: a path that is within a base lies below it, from each directory of which is known where paths lead behind it; and a checked join lies below its base (`IsBelow`, `IsTold`, `Replaces`, `Leads`)
-- UnixWithin: on Unix a path is within a base exactly where it lies below it from every absolute directory, so the test for it is exact (`IsDeep`)
-- WindowsWithin: the same on Windows, from each absolute directory that keeps its prefix and is not verbatim; and the kinds that are read of a path with a prefix, and of one without
-- VerbatimWithin: and from each verbatim one that keeps its prefix (`LeadsBelow`, `Ends`)
-- StepsBack: lists with the same heads, prefix and root; the steps that lead from one list to another, put behind the first, lead where the second leads; and their path, read again (`IsRelativeRead`, `IsReached`)
-- UnixRelative: on Unix the path that leads from a base to another leads back, and there is none exactly where no relative path does (`IsFilled`, `IsUnreached`)
-- WindowsRelative: on Windows it leads back behind a base that is not verbatim and keeps its prefix (`Joined`)
-- VerbatimRelative: and behind a verbatim one that ends with enough names (`IsUnder`)
-- WindowsStable: the normal text of Windows is stable, where no name has a byte that no name may have (`IsReadAgain`, `Settled`)
-- CleanRead: parents and names as they are written, read as themselves, and where such a list leads (`AreSegments`, `IsRead`, `Leads`, `LeadsAs`)
-- CleanForms: the clean text of a path without a prefix, read again, and that it is the one text of where it leads (`ReadsPlain`, `HasPlainHead`)
-- WindowsClean: the clean text of a path of Windows with a prefix, read again (`IsCleanForm`)
-- RouteBehind: paths that lead alike lie at one place, from each directory of which is known where paths lead behind it
-- Shared: a path cut where a component ends is read as the components up to there; so what two paths share is the longest that begins both (`IsWhole`, `ShareNothing`, `IsLongest`)
-- JoinedWithin: a checked join lies within its base, where that keeps its prefix; and what lies within what lies within a third (`StaysWithin`)
-- LoweredPaths: a path in lower case is its own, and answers, is refused and lies as the path does
pub mod UnixContained
pub mod WindowsBases
pub mod WindowsContained
pub mod WindowsStable
pub mod Within
pub mod UnixWithin
pub mod WindowsWithin
pub mod VerbatimWithin
pub mod CleanRead
pub mod CleanForms
pub mod WindowsClean
pub mod RouteBehind
pub mod StepsBack
pub mod UnixRelative
pub mod WindowsRelative
pub mod VerbatimRelative
pub mod Shared
pub mod JoinedWithin
pub mod LoweredPaths
