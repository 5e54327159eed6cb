-- A check file with an open last line, and the next byte.
use Rattle.std.proofs.Common.{◌≡◌, ℕ, ◌+◌, ◌-◌, ◌<◌, ◌≤◌, Bool, true, false, List, [], ◌∷◌, ◌++◌, length, take, map, refl, ap, sym, ◌∙◌, arith, append_assoc, Option, Result, Ok, Err, inl, inr}
use Rattle.std.specs.Prelude.{◌==◌, ◌||◌, if◌then◌else◌, slice_index, IfOk}
use Rattle.std.specs.Global.{Vec}
use Rattle.std.specs.List.{list_any}
use Rattle.std.proofs.lemmas.List.{append-nil, length-take-le, length_push}
use Rattle.std.proofs.lemmas.List.Folds.{list_any-append}
use Rattle.pon_device.specs.Device.{Consumes, IsAtEnd}
use Rattle.pon_device.proofs.DeviceBytes.{consumes_more}
use Rattle.pon_text.specs.Lines.{file_lines, lines_of, onto, without_return}
use Rattle.pon_check_file.specs.CheckFiles.{file_of}
use Rattle.pon_check_file.specs.Stages.{Decides, EndsLine, Grows, IsOpen, TakesByte, goes_on, lines_before, opens, said}
use Rattle.pon_check_file.specs.declared.file.Parsed.{Parsed}
use Rattle.pon_check_file.specs.declared.file.Parsed.TheVariants as parsed
use Rattle.pon_check_file.specs.declared.reading.Open.{Open}
use Rattle.pon_check_file.specs.declared.reading.Taken.{Taken}
use Rattle.pon_check_file.specs.declared.reading.Taken.TheVariants as taken
use Rattle.pon_check_file.proofs.LongLines.{long_unfit}

-- ---- the first line of a text
neither : (a b : Bool) → (a || b) ≡ false → (a ≡ false) × (b ≡ false)
neither true b e = absurd (cc)
neither false b e = (refl, e)

abbrev NoFeed : List ℕ → Type 0
NoFeed l = list_any (λ b. b == 10) l ≡ false

first_ended : (l t : List ℕ) → NoFeed l → lines_of (l ++ 10 ∷ t) ≡ l ∷ lines_of t
first_ended [] t lack = refl
first_ended (b ∷ l) t lack =
    let two = neither (b == 10) (list_any (λ b. b == 10) l) lack in
    let other = two.0 in
    let more = first_ended l t two.1 in
    rw (other, more) refl

line_ended : (l t : List ℕ) → NoFeed l → file_lines (l ++ 10 ∷ t) ≡ without_return l ∷ file_lines t
line_ended l t lack = ap (map without_return) (first_ended l t lack)

last_open : (l : List ℕ) → NoFeed l → 0 < length l → lines_of l ≡ l ∷ []
last_open [] lack some = absurd (omega (arith, some))
last_open (b ∷ []) lack some = let other = (neither (b == 10) false lack).0 in rw other refl
last_open (b ∷ c ∷ l) lack some =
    let two = neither (b == 10) (list_any (λ b. b == 10) (c ∷ l)) lack in
    let other = two.0 in
    let more = last_open (c ∷ l) two.1 (omega arith) in
    ap (λ v. if v then [] ∷ lines_of (c ∷ l) else onto b (lines_of (c ∷ l))) other ∙ ap (onto b) more

record Begins (l t : List ℕ) : Type 0 where
  pub more : List ℕ
  pub others : List (List ℕ)
  pub lines : lines_of (l ++ t) ≡ (l ++ more) ∷ others

onto_begins : (b : ℕ) (t : List ℕ) (ls : List (List ℕ)) → lines_of t ≡ ls → (b == 10) ≡ false → Begins (b ∷ []) t
onto_begins b t [] e other = record { more = []; others = []; lines = ap (λ v. if v then [] ∷ lines_of t else onto b (lines_of t)) other ∙ ap (onto b) e }
onto_begins b t (l ∷ ls) e other = record { more = l; others = ls; lines = ap (λ v. if v then [] ∷ lines_of t else onto b (lines_of t)) other ∙ ap (onto b) e }

begins : (l t : List ℕ) → NoFeed l → 0 < length l → Begins l t
begins [] t lack some = absurd (omega (arith, some))
begins (b ∷ []) t lack some = onto_begins b t (lines_of t) refl (neither (b == 10) false lack).0
begins (b ∷ c ∷ l) t lack some =
    let two = neither (b == 10) (list_any (λ b. b == 10) (c ∷ l)) lack in
    let rest = begins (c ∷ l) t two.1 (omega arith) in
    record {
      more = rest.more;
      others = rest.others;
      lines = ap (λ v. if v then [] ∷ lines_of (c ∷ l ++ t) else onto b (lines_of (c ∷ l ++ t))) two.0 ∙ ap (onto b) rest.lines;
    }

returned : (l : List ℕ) → length l ≤ length (without_return l) + 1
returned l = go (slice_index l (length l - 1) == 13)
  where
    go : (v : Bool) → length l ≤ length (if v then take (length l - 1) l else l) + 1
    go true = omega (arith, length-take-le (length l - 1) l (omega arith))
    go false = omega arith

length_both : (a b : List ℕ) → length (a ++ b) ≡ length a + length b
length_both [] b = omega arith
length_both (x ∷ a) b = omega (arith, length_both a b)

no_feed_push : (l : List ℕ) (b : ℕ) → NoFeed l → (b == 10) ≡ false → NoFeed (l ++ b ∷ [])
no_feed_push l b lack other = list_any-append (λ b. b == 10) l (b ∷ []) ∙ rw (lack, other) refl

-- ---- the next byte
pub feed_taken : (o : Open) (t : Taken) → IsOpen o → EndsLine o t → TakesByte o 10 t
feed_taken o (taken.Open new) p e = record {
  is_open = record { few = e.fits.few; no_feed = ap (list_any (λ b. b == 10)) e.empty };
  small = omega (arith, e.fits.lines, ap length e.empty);
  same = λ rest. ap (goes_on o.stage) (line_ended o.line.items rest p.no_feed) ∙ e.fits.same (file_lines rest) ∙ ap (λ l. goes_on new.stage (file_lines (l ++ rest))) (sym e.empty);
}
feed_taken o (taken.Syntax n) p e = λ rest. ap (goes_on o.stage) (line_ended o.line.items rest p.no_feed) ∙ e (file_lines rest)

pub byte_taken : (o : Open) (v : Vec ℕ) (b : ℕ) → IsOpen o → (b == 10) ≡ false → v.items ≡ o.line.items ++ b ∷ [] → Grows o (record { stage = o.stage; line = v }) b
byte_taken o v b p other pushed = record {
  is_open = record { few = p.few; no_feed = ap (list_any (λ b. b == 10)) pushed ∙ no_feed_push o.line.items b p.no_feed other };
  small = omega (arith, ap length pushed, length_push o.line.items b);
  same = λ rest. ap (λ l. goes_on o.stage (file_lines l)) (sym (append_assoc o.line.items (b ∷ []) rest)) ∙ ap (λ l. goes_on o.stage (file_lines (l ++ rest))) (sym pushed);
}

pub long_taken : (o : Open) (b : ℕ) → IsOpen o → (b == 10) ≡ false → 10761 < length o.line.items → (rest : List ℕ) → opens o (b ∷ rest) ≡ Err (lines_before o.stage + 1)
long_taken o b p other long rest =
    let line : List ℕ = o.line.items ++ b ∷ [] in
    let first = begins line rest (no_feed_push o.line.items b p.no_feed other) (omega (arith, length_push o.line.items b)) in
    let size = length_push o.line.items b in
    ap (λ l. goes_on o.stage (file_lines l)) (sym (append_assoc o.line.items (b ∷ []) rest))
    ∙ ap (λ ls. goes_on o.stage (map without_return ls)) first.lines
    ∙ long_unfit o.stage (without_return (line ++ first.more)) (map without_return first.others) p.few (omega (arith, long, size, length_both line first.more, returned (line ++ first.more)))

-- ---- the end
pub last_line : (o : Open) → IsOpen o → 0 < length o.line.items → goes_on o.stage (file_lines o.line.items) ≡ goes_on o.stage (without_return o.line.items ∷ [])
last_line o p some = ap (λ ls. goes_on o.stage (map without_return ls)) (last_open o.line.items p.no_feed some)

-- ---- the loop
-- some bytes were read, and this is the open line
pub record Progress (old new : Option (List ℕ)) (o : Open) : Type 0 where
  pub input : List ℕ
  pub read : Consumes old new input
  pub same : (rest : List ℕ) → file_of (file_lines (input ++ rest)) ≡ opens o rest

pub feed_ended : {E : Type 0} (o : Open) (r : Result Taken E) → IsOpen o → IfOk r (EndsLine o) → IfOk r (TakesByte o 10)
feed_ended o (Ok t) p e = feed_taken o t p e
feed_ended o (Err x) p e = e

abbrev pub Reads : Option (List ℕ) → Option (List ℕ) → Parsed → Type 0
Reads old new p = (x : List ℕ) × Consumes old new x × Decides x new p

-- the end of the input
pub ended_file : (old mid new : Option (List ℕ)) (o : Open) (p : Parsed) → Progress old mid o → Consumes mid new [] × IsAtEnd new → goes_on o.stage (file_lines o.line.items) ≡ said p → Reads old new p
ended_file old mid new o p g c e = (
  g.input ++ [],
  consumes_more old mid new g.input [] g.read c.0,
  inl (c.1, g.same [] ∙ ap (λ l. goes_on o.stage (file_lines l)) (append-nil o.line.items) ∙ e),
)

-- a line does not fit
pub unfit_file : (old mid new : Option (List ℕ)) (o : Open) (b n : ℕ) → Progress old mid o → Consumes mid new (b ∷ []) → ((rest : List ℕ) → opens o (b ∷ rest) ≡ Err n) → Reads old new (parsed.Syntax n)
unfit_file old mid new o b n g c e = (
  g.input ++ b ∷ [],
  consumes_more old mid new g.input (b ∷ []) g.read c,
  inr (n, refl, λ rest. ap (λ t. file_of (file_lines t)) (append_assoc g.input (b ∷ []) rest) ∙ g.same (b ∷ rest) ∙ e rest),
)

-- one more byte was read
pub byte_read : (old mid new : Option (List ℕ)) (o : Open) (b : ℕ) → Progress old mid o → Consumes mid new (b ∷ []) → (x : List ℕ) × Consumes old new x
byte_read old mid new o b g c = (g.input ++ b ∷ [], consumes_more old mid new g.input (b ∷ []) g.read c)

pub one_more : (old mid new : Option (List ℕ)) (o next : Open) (b : ℕ) → Progress old mid o → Consumes mid new (b ∷ []) → Grows o next b → Progress old new next
one_more old mid new o next b g c more = record {
  input = g.input ++ b ∷ [];
  read = consumes_more old mid new g.input (b ∷ []) g.read c;
  same = λ rest. ap (λ t. file_of (file_lines t)) (append_assoc g.input (b ∷ []) rest) ∙ g.same (b ∷ rest) ∙ more.same rest;
}
