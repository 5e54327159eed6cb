-- The outcome of a reader is unique.
use Rattle.std.proofs.Common.{◌≡◌, ◌+◌, ◌⊎◌, List, ℕ, length, drop, Option, Some, None, Result, Ok, Err, refl, ap, sym, ◌∙◌, subst, inl, inr, true, false, arith}
use Rattle.pon_bwmap.specs.MapReading.{BeginsWithMap, map_size}
use Rattle.pon_bwmap.specs.MapFaults.{IsFirstMapFault}
use Rattle.pon_bwmap.specs.declared.fault.MapFault.TheVariants as map_fault
use Rattle.pon_bwmap.proofs.OneMap.{no_fault}
use Rattle.pon_lists.specs.Bytes.{AreBytes}
use Rattle.pon_lists.proofs.Bytes.{All-from_bytes, bytes-drop}
use Rattle.pon_link.specs.UpRecords.{IsRecord}
use Rattle.pon_link.specs.DownRecords.{IsDownRecord, WantsMemory, GivesDown}
use Rattle.pon_link.specs.Reading.{ReaderState, IsOpen, MayBecomeRecord, IsWholeRecord, IsReady, HasFault, HasBadForm, HasBadTag, HasRefusedMap, Returns, Pulls}
use Rattle.pon_link.specs.declared.direction.Direction.{Direction}
use Rattle.pon_link.specs.declared.direction.Direction.TheVariants.{Up, Down}
use Rattle.pon_link.specs.declared.record.UpRecord.{UpRecord}
use Rattle.pon_link.specs.declared.record.DownRecord.{DownRecord}
use Rattle.pon_link.specs.declared.fault.LinkFault.{LinkFault}
use Rattle.pon_link.specs.declared.fault.LinkFault.TheVariants.{BadTag, BadCount, BadMap, Truncated}
use Rattle.pon_link.specs.declared.fault.DownFault.{DownFault}
use Rattle.pon_link.specs.declared.fault.DownFault.TheVariants.{Link, Memory}
use Rattle.pon_link.specs.declared.pull.Pulled.{Pulled}
use Rattle.pon_link.specs.declared.pull.Pulled.TheVariants.{Bytes, End}
use Rattle.pon_link.specs.declared.pull.PullFault.{PullFault}
use Rattle.pon_link.specs.declared.pull.PullFault.TheVariants as pull_fault
use Rattle.pon_link.specs.declared.pull.PullFault.TheVariants.{Device}
use Rattle.pon_link.proofs.DownReading.{down_size, not_refused}
use Rattle.pon_link.proofs.Sizes.{no_size, more_needed}

not_begun : (bytes : List ℕ) (r : UpRecord) → IsRecord bytes r → MayBecomeRecord Up bytes → ⊥
not_begun bytes r h b = let more = b.more (omega (arith, h.size)) in omega (arith, h.size, h.count, more.1.2, more.2)

pub waits : (s : ReaderState) (r : UpRecord) → s.direction ≡ Up → IsRecord s.held r → IsOpen s → ⊥
waits s r up h o = not_begun s.held r h (subst (λ (d : Direction). MayBecomeRecord d s.held) up o.beginning)

down_not_begun : (bytes : List ℕ) (r : DownRecord) → AreBytes bytes → IsDownRecord bytes r → MayBecomeRecord Down bytes → ⊥
down_not_begun bytes r small h b = omega (arith, more_needed Down bytes (length bytes) small (omega (arith, h.size)) (down_size bytes r h) b)

-- the upstream direction is not the downstream one
not_down : (s : ReaderState) → s.direction ≡ Up → s.direction ≡ Down → ⊥
not_down s up down = let both : Up ≡ Down = sym up ∙ down in cc

pub sound : (s : ReaderState) (r : UpRecord) (f : LinkFault) → s.direction ≡ Up → IsRecord s.held r → HasFault s f → ⊥
sound s r BadTag up h f = (subst (λ (d : Direction). HasBadTag d s.held) up f).1 h.tag
sound s r BadCount up h f = elim f.1.2 [ inl none ↦ omega (arith, none, h.count, h.some) | inr more ↦ omega (arith, more, h.count, h.limit) ]
sound s r BadMap up h f = not_down s up f.0
sound s r (Truncated left) up h f = not_begun s.held r h (subst (λ (d : Direction). MayBecomeRecord d s.held) up f.1)

-- a proper prefix of a record has no bad form
pub form_begun : (d : Direction) (bytes : List ℕ) → MayBecomeRecord d bytes → HasBadForm d bytes → ⊥
form_begun d bytes b f = let size = b.form.size f.0 in no_size d bytes size.0 f.2 size.1

-- a proper prefix of a record is not a whole one
whole_begun : (d : Direction) (bytes : List ℕ) → AreBytes bytes → MayBecomeRecord d bytes → IsWholeRecord d bytes → ⊥
whole_begun d bytes small b w = omega (arith, more_needed d bytes (length bytes) small w.told w.size b)

no_form_fault : (s : ReaderState) (f : LinkFault) → (s.direction ≡ Down → AreBytes s.held) → MayBecomeRecord s.direction s.held → HasFault s f → f ≡ Truncated (length s.held)
no_form_fault s BadTag small b f = absurd (f.1 (b.form.tag f.0))
no_form_fault s BadCount small b f = absurd (form_begun Up s.held (subst (λ (d : Direction). MayBecomeRecord d s.held) f.0 b) f.1)
no_form_fault s BadMap small b f =
    let down : MayBecomeRecord Down s.held = subst (λ (d : Direction). MayBecomeRecord d s.held) f.0 b in
    absurd (elim f.1 [ inl bad ↦ form_begun Down s.held down bad | inr refused ↦ whole_begun Down s.held (small f.0) down refused.0 ])
no_form_fault s (Truncated left) small b f = ap (λ (n : ℕ). Truncated n) f.3

pub faultless : (s : ReaderState) (f : LinkFault) → (s.direction ≡ Down → AreBytes s.held) → IsOpen s → HasFault s f → ⊥
faultless s (Truncated left) small o f = let both : true ≡ false = sym f.0 ∙ o.unended in cc
faultless s BadTag small o f = f.1 (o.beginning.form.tag f.0)
faultless s BadCount small o f = form_begun Up s.held (subst (λ (d : Direction). MayBecomeRecord d s.held) f.0 o.beginning) f.1
faultless s BadMap small o f =
    let down : MayBecomeRecord Down s.held = subst (λ (d : Direction). MayBecomeRecord d s.held) f.0 o.beginning in
    elim f.1 [ inl bad ↦ form_begun Down s.held down bad | inr refused ↦ whole_begun Down s.held (small f.0) down refused.0 ]

-- a bad form has the right tag, and so has a whole record
tag_there : (s : ReaderState) → (s.direction ≡ Down) × (HasBadForm Down s.held ⊎ HasRefusedMap s.held) → HasBadTag s.direction s.held → ⊥
tag_there s f t =
    let bad : HasBadTag Down s.held = subst (λ (d : Direction). HasBadTag d s.held) f.0 t in
    elim f.1 [ inl form ↦ bad.1 form.1 | inr refused ↦ bad.1 (refused.0.form.tag bad.0) ]

-- the bytes of a map's record are whole
pub down_waits : (s : ReaderState) (r : DownRecord) → s.direction ≡ Down → AreBytes s.held → IsDownRecord s.held r → IsOpen s → ⊥
down_waits s r down small h o = down_not_begun s.held r small h (subst (λ (d : Direction). MayBecomeRecord d s.held) down o.beginning)

pub down_sound : (s : ReaderState) (r : DownRecord) (f : LinkFault) → s.direction ≡ Down → AreBytes s.held → IsDownRecord s.held r → HasFault s f → ⊥
down_sound s r BadTag down small h f = (subst (λ (d : Direction). HasBadTag d s.held) down f).1 h.tag
down_sound s r BadCount down small h f = not_down s f.0 down
down_sound s r BadMap down small h f = elim f.1 [
  | inl bad ↦ bad.2 (length s.held) (down_size s.held r h)
  | inr refused ↦ not_refused s.held r refused.1.0 small h refused.1.1 refused.1.2
]
down_sound s r (Truncated left) down small h f = down_not_begun s.held r small h (subst (λ (d : Direction). MayBecomeRecord d s.held) down f.1)

pub one_fault : (s : ReaderState) (f g : LinkFault) → (s.direction ≡ Down → AreBytes s.held) → HasFault s f → HasFault s g → f ≡ g
one_fault s (Truncated left) g small h k = no_form_fault s (Truncated left) small h.1 h ∙ sym (no_form_fault s g small h.1 k)
one_fault s f (Truncated left) small h k = no_form_fault s f small k.1 h ∙ sym (no_form_fault s (Truncated left) small k.1 k)
one_fault s BadTag BadTag small h k = refl
one_fault s BadTag BadCount small h k = absurd ((subst (λ (d : Direction). HasBadTag d s.held) k.0 h).1 k.1.1)
one_fault s BadCount BadTag small h k = absurd ((subst (λ (d : Direction). HasBadTag d s.held) h.0 k).1 h.1.1)
one_fault s BadCount BadCount small h k = refl
one_fault s BadTag BadMap small h k = absurd (tag_there s k h)
one_fault s BadMap BadTag small h k = absurd (tag_there s h k)
one_fault s BadMap BadMap small h k = refl
one_fault s BadCount BadMap small h k = absurd (not_down s h.0 k.0)
one_fault s BadMap BadCount small h k = absurd (not_down s k.0 h.0)

-- ---- a whole record, and memory

whole_sound : (s : ReaderState) (d : Direction) (f : LinkFault) → s.direction ≡ d → AreBytes s.held → IsWholeRecord d s.held → HasFault s f → (f ≡ BadMap) × HasRefusedMap s.held
whole_sound s d BadTag is small w f = let bad : HasBadTag d s.held = subst (λ (e : Direction). HasBadTag e s.held) is f in absurd (bad.1 (w.form.tag bad.0))
whole_sound s d BadCount is small w f =
    let up : IsWholeRecord Up s.held = subst (λ (e : Direction). IsWholeRecord e s.held) (sym is ∙ f.0) w in
    absurd (no_size Up s.held (length s.held) f.1.2 up.size)
whole_sound s d BadMap is small w f =
    let down : IsWholeRecord Down s.held = subst (λ (e : Direction). IsWholeRecord e s.held) (sym is ∙ f.0) w in
    elim f.1 [
      | inl bad ↦ absurd (no_size Down s.held (length s.held) bad.2 down.size)
      | inr refused ↦ (refl, refused)
    ]
whole_sound s d (Truncated left) is small w f = absurd (whole_begun d s.held small (subst (λ (e : Direction). MayBecomeRecord e s.held) is f.1) w)

-- a whole record that is not refused has no fault
ready_sound : (s : ReaderState) (d : Direction) (f : LinkFault) → s.direction ≡ d → AreBytes s.held → IsReady d s.held → HasFault s f → ⊥
ready_sound s Up f is small w h = let bad = whole_sound s Up f is small w h in not_down s is (subst (λ (g : LinkFault). HasFault s g) bad.0 h).0
ready_sound s Down f is small w h =
    let bad = (whole_sound s Down f is small w.0 h).1 in
    bad.1.2 (no_fault (drop 9 s.held) w.1.0 w.1.1 w.1.2 bad.1.0 (All-from_bytes (drop 9 s.held) (bytes-drop 9 s.held small)) w.1.3 bad.1.1)

-- memory is needed for a whole record
begins_map : (bytes : List ℕ) → IsFirstMapFault bytes map_fault.Memory → BeginsWithMap bytes
begins_map bytes f = (
  f.in_rows.0,
  f.corrected + f.in_rows.1,
  map_size f.head,
  record {
    head = f.head;
    in_head = f.corrected;
    in_rows = f.in_rows.1;
    reads_head = f.reads_head;
    reads_rows = f.in_rows.2;
    corrected_is = refl;
    used_is = refl;
  },
)

pub memory_sound : (s : ReaderState) (f : LinkFault) → s.direction ≡ Down → AreBytes s.held → WantsMemory s.held → HasFault s f → ⊥
memory_sound s f down small m h = ready_sound s Down f down small (m.0, begins_map (drop 9 s.held) m.1) h

pub memory_waits : (s : ReaderState) → s.direction ≡ Down → AreBytes s.held → WantsMemory s.held → IsOpen s → ⊥
memory_waits s down small m o = whole_begun Down s.held small (subst (λ (d : Direction). MayBecomeRecord d s.held) down o.beginning) m.0

-- ---- a fault is kept by all later calls

pub sticky_next : (s t : ReaderState) (r : Result (Option UpRecord) LinkFault) (f : LinkFault) → s.direction ≡ Up → AreBytes s.held → Returns IsRecord s t r → HasFault s f → r ≡ Err f
sticky_next s t (Ok (Some r)) f up small g h = absurd (sound s r f up g.0 h)
sticky_next s t (Ok None) f up small g h = absurd (faultless s f (λ _. small) g.0 h)
sticky_next s t (Err e) f up small g h = ap (λ (x : LinkFault). Err x) (one_fault s e f (λ _. small) g.0 h)

pub sticky_down : (s t : ReaderState) (r : Result (Option DownRecord) DownFault) (f : LinkFault) → s.direction ≡ Down → AreBytes s.held → GivesDown s t r → HasFault s f → r ≡ Err (Link f)
sticky_down s t (Ok (Some r)) f down small g h = absurd (down_sound s r f down small g.0 h)
sticky_down s t (Ok None) f down small g h = absurd (faultless s f (λ _. small) g.0 h)
sticky_down s t (Err (Link e)) f down small g h = ap (λ (x : LinkFault). Err (Link x)) (one_fault s e f (λ _. small) g.0 h)
sticky_down s t (Err Memory) f down small g h = absurd (memory_sound s f down small g.0 h)

pub sticky_pull : (s t : ReaderState) (left rest : Option (List ℕ)) (r : Result Pulled PullFault) (f : LinkFault) → AreBytes s.held → Pulls s t left rest r → HasFault s f → r ≡ Err (pull_fault.Link f)
sticky_pull s t left rest (Ok (Bytes n)) f small p h = elim p.4 [
  | inl ready ↦ absurd (ready_sound s s.direction f refl small ready.0 h)
  | inr begun ↦ absurd (faultless s f (λ _. small) begun.0 h)
]
sticky_pull s t left rest (Ok End) f small p h = absurd (faultless s f (λ _. small) p.1 h)
sticky_pull s t left rest (Err Device) f small p h = absurd (faultless s f (λ _. small) p.0 h)
sticky_pull s t left rest (Err (pull_fault.Link e)) f small p h = elim p.3 [
  | inl old ↦ ap (λ (x : LinkFault). Err (pull_fault.Link x)) (one_fault s e f (λ _. small) old.0 h)
  | inr begun ↦ absurd (faultless s f (λ _. small) begun.0 h)
]
