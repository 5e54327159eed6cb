-- A recording that is written to a device, call by call.
use Rattle.std.proofs.Common.{◌≡◌, ℕ, List, [], ◌∷◌, ◌++◌, ap, sym, ◌∙◌, append_assoc}
use Rattle.std.specs.Prelude.{Option}
use Rattle.std.specs.List.{flat_map}
use Rattle.std.proofs.lemmas.List.{append-nil}
use Rattle.std.proofs.lemmas.Grind.{flat_map-append}
use Rattle.pon_device.specs.Device.{Keeps}
use Rattle.pon_device.proofs.Pieces.{appends_kept, appends_more}
use Rattle.pon_record.specs.declared.version.Version.TheVariants.{Two}
use Rattle.pon_record.specs.Chapters.{Body, chapter_bytes}
use Rattle.pon_record.specs.Recordings.{magic, recording_bytes}
use Rattle.pon_record.specs.Recorders.{GoesOut, Grows, Stays}

-- writing more of what was left keeps the recording
pub stays : (mid new : Option (List ℕ)) (left rest : List ℕ) → GoesOut mid new rest left → Stays mid left new rest
stays mid new left rest h before bodies r = record {
  sent = r.sent ++ h.sent;
  appends = appends_more before mid new r.sent h.sent r.appends h.appends;
  together = append_assoc r.sent h.sent rest ∙ ap (λ (t : List ℕ). r.sent ++ t) h.together ∙ r.together;
}

-- writing nothing keeps the recording
pub keeps : (mid new : Option (List ℕ)) (left : List ℕ) → Keeps mid new → Stays mid left new left
keeps mid new left k before bodies r = record {
  sent = r.sent;
  appends = appends_kept before mid new r.sent r.appends k;
  together = r.together;
}

-- bytes written, and then none
pub stays_kept : (mid more new : Option (List ℕ)) (left rest : List ℕ) → GoesOut mid more rest left → Keeps more new → Stays mid left new rest
stays_kept mid more new left rest h k before bodies r = keeps more new rest k before bodies (stays mid more left rest h before bodies r)

one_more : (bodies : List Body) (b : Body) → recording_bytes Two bodies ++ chapter_bytes Two b ≡ recording_bytes Two (bodies ++ b ∷ [])
one_more bodies b =
    append_assoc (magic Two) (flat_map (chapter_bytes Two) bodies) (chapter_bytes Two b)
    ∙ ap (λ (t : List ℕ). magic Two ++ (flat_map (chapter_bytes Two) bodies ++ t)) (sym (append-nil (chapter_bytes Two b)))
    ∙ ap (λ (t : List ℕ). magic Two ++ t) (sym (flat_map-append (chapter_bytes Two) bodies (b ∷ [])))

-- a chapter is written when nothing was left
pub grows : (mid new : Option (List ℕ)) (left rest bytes : List ℕ) (b : Body) → left ≡ [] → bytes ≡ chapter_bytes Two b → GoesOut mid new rest bytes → Grows mid left new rest b
grows mid new left rest bytes b none is h before bodies r =
    let all : r.sent ≡ recording_bytes Two bodies = sym (append-nil r.sent) ∙ ap (λ (t : List ℕ). r.sent ++ t) (sym none) ∙ r.together in
    record {
      sent = r.sent ++ h.sent;
      appends = appends_more before mid new r.sent h.sent r.appends h.appends;
      together = append_assoc r.sent h.sent rest ∙ ap (λ (t : List ℕ). r.sent ++ t) (h.together ∙ is) ∙ ap (λ (t : List ℕ). t ++ chapter_bytes Two b) all ∙ one_more bodies b;
    }
