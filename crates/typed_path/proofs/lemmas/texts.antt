-- Texts in UTF-8.
-- TextCuts: bytes that are a text and bytes that are none, a text cut beside a byte of ASCII, and the segments, prefixes and components that are texts (`IsCharBoundary`, `IsTextSegment`, `IsCut`)
-- TextNames: the names that a component holds, as the server and the share of a prefix, are texts where its own text is one
-- TextsLeft: what is left of a text, and what it answers about itself, are texts: its components, its file name with stem and extension, its prefix and the paths above it (`IsTextPlaced`, `IsTextReading`)
-- TextChanges: what changes a text leaves a text, and what the search is told of texts (`IsWritten`)
-- TextClean: the clean text of a text is one, and the path that leads from a base to it
-- TextLowered: a text in lower case is a text
pub mod TextCuts
pub mod TextNames
pub mod TextsLeft
pub mod TextChanges
pub mod TextClean
pub mod TextLowered
