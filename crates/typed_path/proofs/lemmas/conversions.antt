-- Conversions between the dialects.
-- Crossings: components of another dialect pushed one by one, and names of Unix that are names of Windows too
-- CrossedPaths: what a path is read as once it is converted, and what comes back (`IsStep`, `IsBare`, `IsReadAlone`)
-- TurnedPaths: paths of which a conversion changes no more than the separators (`IsWindowsPiece`, `CrossesTurned`)
-- UnrefusedPaths: paths of which looks at their bytes tell that no component is refused as it crosses (`IsUnrefused`)
-- PortableCrossings: portable paths keep their components in the other dialect, and come back
pub mod Crossings
pub mod CrossedPaths
pub mod TurnedPaths
pub mod UnrefusedPaths
pub mod PortableCrossings
