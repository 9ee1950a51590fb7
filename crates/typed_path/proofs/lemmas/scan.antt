-- Readings from both ends.
-- LastComponent: the end of a text, as its bytes are read: what belongs to no component, the last component, and the text before it (`IsLast`, `IsTrimOf`)
-- Readings: a reading from both ends by steps one after another, of the list and of the slice that it leaves, the empty ones among them
-- Steps: one step of an iterator or a cursor from either end, and where its slice starts then; the first and the last component of a list, whether it has one, and what is left without it (`YieldsLastBy`, `YieldsFirstBy`, `MakesProgress`)
-- Searches: what masks say of places, and searches of a range put together from what was seen of it (`IsMask`, `IsFirstPlace`, `TellsWhether`)
-- Tables: tables that bytes are looked up in by their low bits
-- Blanks: segments that count for nothing behind others: how marks tell that there is none, what that tells of the pieces of a text, what its first bytes tell of its first segment, and a search behind separators of its pieces (`MarksNoBlank`)
-- Unread: readings that are kept as numbers: the one that stands at them, the numbers of one, and that what is left lies within the path (`IsReading`, `IsReadingOf`)
-- LowerCase: blocks of bytes in lower case, and where two texts differ in lower case
pub mod LastComponent
pub mod Readings
pub mod Steps
pub mod Searches
pub mod Tables
pub mod Blanks
pub mod Unread
pub mod LowerCase
