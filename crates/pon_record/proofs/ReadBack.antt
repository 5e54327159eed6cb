-- The recordings of ports are read back.
use Rattle.std.proofs.Common.{◌≡◌, List, [], ◌∷◌, refl, sym, subst}
use Rattle.std.specs.List.{AllByRecursion}
use Rattle.pon_record.specs.declared.limits.TheConstants.{MAGIC_BYTES}
use Rattle.pon_record.specs.declared.fault.ReadFault.{ReadFault}
use Rattle.pon_record.specs.declared.fault.ReadFault.TheVariants.{BadFormat, Truncated, Memory}
use Rattle.pon_record.specs.declared.version.Version.TheVariants.{Two}
use Rattle.pon_record.specs.Chapters.{Body, FitsChapter, PlacedChapter, placed}
use Rattle.pon_record.specs.Recordings.{IsReadFault, IsRecording, IsRecordingIn, either_version, recording_bytes}
use Rattle.pon_record.proofs.OneReading.{no_bad_format, no_truncated, one_recording, written_is_read}
use Rattle.pon_record.specs.Bodies.{IsOfPort}
use Rattle.pon_record.proofs.FitChapters.{chapter_fits}

each_fits : (bodies : List Body) → AllByRecursion IsOfPort bodies → AllByRecursion (FitsChapter Two) bodies
each_fits [] h = tt
each_fits (b ∷ bodies) h = (subst (FitsChapter Two) (sym h.0.is) (chapter_fits h.0.port h.0.chapter h.0.numbered h.0.lawful h.0.count h.0.in_range), each_fits bodies h.1)

pub is_recording : (bodies : List Body) → AllByRecursion IsOfPort bodies → IsRecordingIn Two (recording_bytes Two bodies) (placed Two MAGIC_BYTES bodies)
is_recording bodies h = written_is_read Two bodies (each_fits bodies h)

read : (bodies : List Body) → AllByRecursion IsOfPort bodies → IsRecording (recording_bytes Two bodies) (placed Two MAGIC_BYTES bodies)
read bodies h = (Two, refl, is_recording bodies h)

pub same_chapters : (bodies : List Body) (chapters : List PlacedChapter) → AllByRecursion IsOfPort bodies → IsRecording (recording_bytes Two bodies) chapters → chapters ≡ placed Two MAGIC_BYTES bodies
same_chapters bodies chapters h r = one_recording either_version (recording_bytes Two bodies) chapters (placed Two MAGIC_BYTES bodies) r (read bodies h)

pub only_memory : (bodies : List Body) (fault : ReadFault) → AllByRecursion IsOfPort bodies → IsReadFault (recording_bytes Two bodies) fault → fault ≡ Memory
only_memory bodies (BadFormat at) h f = absurd (no_bad_format either_version (recording_bytes Two bodies) (placed Two MAGIC_BYTES bodies) at (read bodies h) f)
only_memory bodies (Truncated at whole) h f = absurd (no_truncated either_version (recording_bytes Two bodies) (placed Two MAGIC_BYTES bodies) at whole (read bodies h) f)
only_memory bodies Memory h f = refl
