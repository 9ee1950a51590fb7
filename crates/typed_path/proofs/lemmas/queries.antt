-- What a path answers about itself.
-- FileNames: a file name, its stem and its extension, and names with allowed bytes (`IsAllowedPart`, `IsParted`, `AllowsEach`)
-- ValidNames: which names stand for devices, by their first bytes; and pieces are valid, `.` and `..` among them, where no byte strays and none stands for a device
-- Parents: the list of a parent, of the paths above and of a path without its name (`HasName`, `HasParent`)
-- Bases: the beginning and the end of a path compared with another, and a base taken off (`Strips`)
-- FirstBytes: paths of Windows that begin otherwise, as their first bytes tell (`IsWrittenFrom`, `IsLong`)
-- Simplified: a path of a verbatim drive without its `\\?\`: what the test for it finds, and what it is read as (`Rereads`, `IsSimple`, `IsReread`)
-- WideDevices: names that may be devices: the rule that tells most takes in the narrower ones, and what such a name begins with
-- Portable: portable names, what the walks over components find, and paths of which a look at the bytes tells (`IsPortable`)
-- PortablePaths: what a portable path is: valid in both dialects, not refused, and read alike in the other one
-- Shared: what two paths begin with: how far they have been read alike, and that it is the longest that both begin with; and which lists of texts begin another (`Shares`)
-- SharedFronts: what two paths begin with, as the front of the one that their bytes tell of (`ShareFront`)
pub mod FileNames
pub mod ValidNames
pub mod Parents
pub mod Bases
pub mod FirstBytes
pub mod Simplified
pub mod WideDevices
pub mod Portable
pub mod PortablePaths
pub mod Shared
pub mod SharedFronts
