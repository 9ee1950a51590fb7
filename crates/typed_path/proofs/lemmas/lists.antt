-- Lists and options in general.
-- Lists: what stands before a first match, what a split gives, a list cut at an element that passes a test; parts of lists, what holds of each of their elements, and lists that begin alike (`IsLastPlace`, `TakesPieces`, `DropsPieces`, `IsUnseparated`, `IsCut`)
-- Options: what an option tells that is made by a test, of another option, or as the first of two cases or the second
pub mod Lists
pub mod Options
