-- When a recording goes on in the next segment.
use Rattle.std.specs.Prelude.{ℕ, Option, Some, None}
use Rattle.pon_files.specs.declared.recording_file.RecordingFile.{RecordingFile}
use Rattle.pon_files.specs.declared.recording_file.RecordingFile.TheVariants as file

-- the number of maps of one port after which a file is followed by the next one: a segment has one, and no other file
abbrev pub most_maps_of : {F : Type 0} → RecordingFile F → Option ℕ
most_maps_of (file.Part part) = None
most_maps_of (file.Direct direct) = None
most_maps_of (file.Segment segment) = Some segment.rules.maps
