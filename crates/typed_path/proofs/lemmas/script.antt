-- Lines of commands, and streams.
-- Lines: lines of an input that comes in pieces: their ends, their commands, their fields, and replies as they are put (`LacksField`, `AnswersFirst`)
-- Streams: bytes that were read and written, step after step (`Consumes`, `Appends`)
pub mod Lines
pub mod Streams
