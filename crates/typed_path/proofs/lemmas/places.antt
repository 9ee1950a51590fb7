-- Where a path leads.
-- Resolving: what a list resolves to: names that it comes down to, lists put behind one another, lists as they are read, and a root put in (`Alike`, `Comes`, `Rooting`, `IsKept`)
-- UnixRows: the normal text of Unix, written row by row (`IsNormal`, `AreRowsOf`, `Ended`, `Standing`)
-- WindowsRows: the normal text of Windows, written row by row (`IsWithoutSlash`, `IsRowHead`, `HaveNoDisks`)
-- NamedRows: the rows of names that stand side by side in a text, which are its bytes there
-- KeptNames: the names that are kept of a list, of names alone, of one with another behind it and of one that is resolved; and the place of a path, read off them (`AlikeKept`)
-- KeptFromBack: the names that are kept of a list, one component less at its end, and whether they begin with others (`Goes`)
-- CleanRows: the parents and names that are kept of a path and of segments, put behind a head segment by segment; the kinds of segments beside those of the components that they are (`AreKept`, `TellsNamesOf`)
-- CleanTexts: the clean text of a path, as it is written behind a text
-- SharedFromBack: how many first names two lists share, told from the back (`Tells`)
-- TakenNames: names that are taken off the end of a list one after another, whether they can stand, and the rows and texts that they make from their ends
-- Reached: whether a path is reached from a base, by how many steps, and what room these take; and that it lies within the base where no step leads up (`AreSteps`)
-- NearSteps: the steps between two texts that go on with names alone behind the components that both begin with, and how they are written; and names that hold no `/` since that separates (`AreAlone`, `PartInto`)
-- CleanLengths: how long clean texts are, and paths that lead from a base (`Weighs`, `Saves`, `IsPrefixed`)
pub mod Resolving
pub mod UnixRows
pub mod WindowsRows
pub mod NamedRows
pub mod KeptNames
pub mod KeptFromBack
pub mod CleanRows
pub mod CleanTexts
pub mod SharedFromBack
pub mod TakenNames
pub mod Reached
pub mod NearSteps
pub mod CleanLengths
