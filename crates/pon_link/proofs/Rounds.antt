-- More bytes are read, and one more map is answered.
use Rattle.std.proofs.Common.{◌≡◌, ℕ, ◌⊎◌, true, false, List, [], ◌∷◌, ◌++◌, Option, Ok, Err, inl, inr, refl, sym, ap, ◌∙◌, subst, append_assoc, append-nil, arith}
use Rattle.std.proofs.KnownBytes.{Consumes-nil, Consumes-trans, Consumes-kept, Appends-nil}
use Rattle.pon_device.specs.Device.{Consumes, IsAtEnd, Keeps}
use Rattle.pon_lists.specs.Bytes.{AreBytes}
use Rattle.pon_link.specs.DownRecords.{IsDownRecord}
use Rattle.pon_link.specs.Reading.{ReaderState, empty, IsOpen, HasFault}
use Rattle.pon_link.specs.Units.{UnitState}
use Rattle.pon_link.specs.declared.direction.Direction.TheVariants.{Down}
use Rattle.pon_link.specs.declared.fault.LinkFault.{LinkFault}
use Rattle.pon_link.specs.declared.record.DownRecord.{DownRecord}
use Rattle.pon_link.specs.declared.record.UpRecord.{UpRecord}
use Rattle.pon_link.proofs.Outcomes.{faultless}
use Rattle.pon_link.proofs.RunLaws.{records_after, held_record}
use Rattle.pon_link.specs.Answers.{AnswersRows, AnswersMaps}
use Rattle.pon_link.specs.Outputs.{HasAnswered}
use Rattle.pon_link.specs.Progress.{AnswersHeld}
use Rattle.pon_link.specs.Serving.{HasServed, ServesUntil}
use Rattle.pon_link.specs.declared.units_fault.UnitsFault.{UnitsFault}
use Rattle.pon_link.specs.declared.units_fault.UnitsFault.TheVariants.{Device, Link, Memory}
use Rattle.pon_link.proofs.Turns.{writes_more}

-- ---- a reader

-- a new reader waits for a tag
pub starts_open : IsOpen (empty Down)
starts_open = record {
  unended = refl;
  beginning = record {
    form = record { tag = λ some. absurd (omega (arith, some)); size = λ told. absurd (omega (arith, told)) };
    more = λ told. absurd (omega (arith, told));
  };
}

-- an open reader has no fault, so a pull that returns one found the end of the input
pub ends_here : (old new : ReaderState) (rest : Option (List ℕ)) (fault : LinkFault) → AreBytes old.held → IsOpen old → (HasFault old fault × (new ≡ old)) ⊎ (IsOpen old × IsAtEnd rest) → IsAtEnd rest
ends_here old new rest fault small is_open (inl faulty) = absurd (faultless old fault (λ down. small) is_open faulty.0)
ends_here old new rest fault small is_open (inr ended) = ended.1

-- ---- maps

maps_more : (maps : List DownRecord) (r : DownRecord) (old mid new : List UnitState) (answers more : List UpRecord) → AnswersMaps maps old mid answers → AnswersRows r.frame r.map [] mid new more → AnswersMaps (maps ++ r ∷ []) old new (answers ++ more)
maps_more [] r old mid new answers more h k = (
  new,
  more,
  [],
  ap (λ (t : List UpRecord). t ++ more) h.1 ∙ sym (append-nil more),
  subst (λ (units : List UnitState). AnswersRows r.frame r.map [] units new more) h.0 k,
  (refl, refl),
)
maps_more (m ∷ maps) r old mid new answers more h k = (
  h.0,
  h.1,
  h.2 ++ more,
  ap (λ (t : List UpRecord). t ++ more) h.3 ∙ append_assoc h.1 h.2 more,
  h.4,
  maps_more maps r h.0 mid new h.2 more h.5 k,
)

pub none_served : (left out : Option (List ℕ)) (old : List UnitState) → HasServed left left out out old old []
none_served left out old = record {
  input = [];
  maps = [];
  answers = [];
  read = Consumes-nil left;
  are_maps = refl;
  answered = (refl, refl);
  written = record { bytes = []; records = refl; written = Appends-nil out };
}

-- more bytes are read
pub read_more : (a b c out_old out_new : Option (List ℕ)) (old new : List UnitState) (held bytes : List ℕ) → HasServed a b out_old out_new old new held → Consumes b c bytes → HasServed a c out_old out_new old new (held ++ bytes)
read_more a b c out_old out_new old new held bytes far read = record {
  input = far.input ++ bytes;
  maps = far.maps;
  answers = far.answers;
  read = Consumes-trans a b c far.input bytes far.read read;
  are_maps = records_after IsDownRecord far.input bytes far.maps held far.are_maps;
  answered = far.answered;
  written = far.written;
}

-- no more bytes are read
pub read_kept : (a b c out_old out_new : Option (List ℕ)) (old new : List UnitState) (held : List ℕ) → HasServed a b out_old out_new old new held → Keeps b c → HasServed a c out_old out_new old new held
read_kept a b c out_old out_new old new held far kept = record {
  input = far.input;
  maps = far.maps;
  answers = far.answers;
  read = Consumes-kept a b c far.input far.read kept;
  are_maps = far.are_maps;
  answered = far.answered;
  written = far.written;
}

-- the held map is answered
pub served_more : (a b out_old out_mid out_new : Option (List ℕ)) (old mid new : List UnitState) (held : List ℕ) (r : DownRecord) → HasServed a b out_old out_mid old mid held → IsDownRecord held r → HasAnswered r.frame r.map [] mid new out_mid out_new → HasServed a b out_old out_new old new []
served_more a b out_old out_mid out_new old mid new held r far is here = record {
  input = far.input;
  maps = far.maps ++ r ∷ [];
  answers = far.answers ++ here.answers;
  read = far.read;
  are_maps = held_record IsDownRecord far.input far.maps held r far.are_maps is;
  answered = maps_more far.maps r old mid new far.answers here.answers far.answered here.answered;
  written = writes_more out_old out_mid out_new far.answers here.answers far.written here.written;
}

-- ---- rounds of the loop

served_kept : (a b out_old out_mid out_new : Option (List ℕ)) (old mid new : List UnitState) (held : List ℕ) → HasServed a b out_old out_mid old mid held → new ≡ mid → out_new ≡ out_mid → HasServed a b out_old out_new old new held
served_kept a b out_old out_mid out_new old mid new held far units writer =
    subst (λ (out : Option (List ℕ)). HasServed a b out_old out old new held) (sym writer) (subst (λ (us : List UnitState). HasServed a b out_old out_mid old us held) (sym units) far)

-- the reader continues, and the map that it held is answered
pub record GoesOn (t : ReaderState) (a b out_old out_new : Option (List ℕ)) (old new : List UnitState) : Type 0 where
  pub is_open : IsOpen t
  pub direction : t.direction ≡ Down
  pub small : AreBytes t.held
  pub served : HasServed a b out_old out_new old new t.held

pub goes_on : (s t : ReaderState) (a b out_old out_mid out_new : Option (List ℕ)) (old mid new : List UnitState) → s.direction ≡ Down → AreBytes s.held → HasServed a b out_old out_mid old mid s.held → AnswersHeld {T = Unit {0}} s t mid new out_mid out_new (Ok tt) → GoesOn t a b out_old out_new old new
goes_on s t a b out_old out_mid out_new old mid new down small far (inl kept) =
    subst (λ (r : ReaderState). GoesOn r a b out_old out_new old new) (sym kept.1.reader)
    (record { is_open = kept.0; direction = down; small = small; served = served_kept a b out_old out_mid out_new old mid new s.held far kept.1.units kept.1.writer })
goes_on s t a b out_old out_mid out_new old mid new down small far (inr here) =
    subst (λ (r : ReaderState). GoesOn r a b out_old out_new old new) (sym here.reader)
    (record { is_open = starts_open; direction = refl; small = λ k. omega arith; served = served_more a b out_old out_mid out_new old mid new s.held here.received far here.is_map here.answered })

pub stops : (fault : UnitsFault) (s t : ReaderState) (a b out_old out_mid out_new : Option (List ℕ)) (old mid new : List UnitState) → s.direction ≡ Down → s.ended ≡ false → HasServed a b out_old out_mid old mid s.held → AnswersHeld {T = Unit {0}} s t mid new out_mid out_new (Err fault) → ServesUntil {T = Unit {0}} a b out_old out_new old new (Err fault)
stops Device s t a b out_old out_mid out_new old mid new down unended far h =
    inr (record { held = s.held; received = h.received; between = mid; out_between = out_mid; served = far; is_map = h.is_map; begun = h.begun })
stops (Link fault) s t a b out_old out_mid out_new old mid new down unended far h =
    (s, served_kept a b out_old out_mid out_new old mid new s.held far h.1.units h.1.writer, down, h.0, λ over. (let no : true ≡ false = sym over ∙ unended in absurd (cc)))
stops Memory s t a b out_old out_mid out_new old mid new down unended far h =
    (s.held, served_kept a b out_old out_mid out_new old mid new s.held far h.1.units h.1.writer, h.0)
