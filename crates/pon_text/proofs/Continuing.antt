-- Text that is answered line by line, in any pieces.
use Rattle.std.proofs.Common.{◌≡◌, ℕ, ◌+◌, ◌-◌, Bool, true, false, ◌||◌, List, [], ◌∷◌, ◌++◌, length, take, refl, ap, sym, ◌∙◌, subst, arith, append_assoc, inl, inr}
use Rattle.std.proofs.lemmas.List.{append-nil, length-take, take-append-le, take_all}
use Rattle.std.proofs.lemmas.List.Folds.{list_any-append}
use Rattle.std.proofs.lemmas.Bool.{cases_lt, or_parts, or_right}
use Rattle.std.proofs.Math.Seq.{take-append-add}
use Rattle.std.specs.Prelude.{◌==◌, ◌≢◌, ◌⊎◌, Option, Some, None, OnOk, Result, Ok, Err, is_err}
use Rattle.std.specs.List.{list_any}
use Rattle.pon_device.specs.Device.{Appends}
use Rattle.pon_device.specs.Streams.{IsBeginning, TellsLine}
use Rattle.pon_device.specs.declared.fault.DeviceFault.{DeviceFault}
use Rattle.pon_device.specs.declared.fault.DeviceFault.TheVariants.{Read, Write, Memory}
use Rattle.pon_device.proofs.DeviceBytes.{appends_none}
use Rattle.pon_device.proofs.Pieces.{appends_more}
use Rattle.pon_text.specs.Cuts.{cut_at}
use Rattle.pon_text.specs.Lines.{lines_of, whole_lines, onto}
use Rattle.pon_text.specs.Giving.{Giving, GivesLines, ReadsFirst}
use Rattle.pon_text.specs.Planning.{BeginsNext, BeginsText}
use Rattle.pon_text.specs.Progress.{Answered, AnswersPiece, Continues, Gathers, PrintsPiece, Reached, StopsWithin, WritesBeginning, WritesLines}
use Rattle.pon_text.proofs.Feeds.{cut_nowhere, cut_parts}

abbrev pub has_feed : List ℕ → Bool
has_feed bs = list_any (λ b. b == 10) bs

-- Lines of bytes.

lines_of-feed : (cur rest : List ℕ) → has_feed cur ≡ false → lines_of (cur ++ 10 ∷ rest) ≡ cur ∷ lines_of rest
lines_of-feed [] rest h = refl
lines_of-feed (b ∷ cur) rest h =
    let two : ((b == 10) ≡ false) × (has_feed cur ≡ false) = or_parts (b == 10) (has_feed cur) h in
    rw two.0 (ap (onto b) (lines_of-feed cur rest two.1))

pub lone_line : (cur : List ℕ) → has_feed cur ≡ false → cur ≢ [] → lines_of cur ≡ cur ∷ []
lone_line [] h n = absurd (n refl)
lone_line (b ∷ []) h n = rw (or_parts (b == 10) false h).0 refl
lone_line (b ∷ c ∷ cur) h n =
    let two : ((b == 10) ≡ false) × (has_feed (c ∷ cur) ≡ false) = or_parts (b == 10) (has_feed (c ∷ cur)) h in
    rw two.0 (ap (onto b) (lone_line (c ∷ cur) two.1 (λ e. cc)))

whole_lines-feed : (cur rest : List ℕ) → whole_lines (cur ++ 10 ∷ rest) ≡ cur ++ 10 ∷ whole_lines rest
whole_lines-feed [] rest = refl
whole_lines-feed (b ∷ cur) rest =
    rw (list_any-append (λ c. c == 10) (b ∷ cur) (10 ∷ rest) ∙ or_right (has_feed (b ∷ cur)) true refl) (ap (λ t. b ∷ t) (whole_lines-feed cur rest))

-- Parts of lines.

longer_kept : (line cur part : List ℕ) → line ≡ take 4097 cur → line ++ take (4097 - length line) part ≡ take 4097 (cur ++ part)
longer_kept line cur part k = elim (cases_lt 4096 (length cur)) [
  | inl l ↦
      let long : length line ≡ 4097 = omega (arith, l, ap (λ t. length t) k, length-take 4097 cur) in
      let none : 4097 - length line ≡ 0 = omega (arith, long) in
      ap (λ n. line ++ take n part) none ∙ append-nil line ∙ k ∙ sym (take-append-le 4097 cur part (omega (arith, l)))
  | inr l ↦
      let all : line ≡ cur = k ∙ take_all 4097 cur (omega (arith, l)) in
      let sum : length cur + (4097 - length cur) ≡ 4097 = omega (arith, l) in
      ap (λ c. c ++ take (4097 - length c) part) all ∙ sym (take-append-add cur part (4097 - length cur)) ∙ ap (λ n. take n (cur ++ part)) sum
]

-- Prefixes of a text.

longer_beginning : (xs part text : List ℕ) → IsBeginning part text → IsBeginning (xs ++ part) (xs ++ text)
longer_beginning xs part text b = (b.0, append_assoc xs part b.0 ∙ ap (λ t. xs ++ t) b.1)

beginning_of : (part mid text : List ℕ) → IsBeginning part mid → IsBeginning mid text → IsBeginning part text
beginning_of part mid text a b = (a.0 ++ b.0, sym (append_assoc part a.0 b.0) ∙ ap (λ t. t ++ b.0) a.1 ∙ b.1)

-- of two prefixes of a text one is a prefix of the other
abbrev OneFirst : List ℕ → List ℕ → List ℕ → Type 0
OneFirst part first rest = IsBeginning part first ⊎ ((more : List ℕ) × (part ≡ first ++ more) × IsBeginning more rest)

one_first : (part left first rest : List ℕ) → part ++ left ≡ first ++ rest → OneFirst part first rest
one_first [] left first rest e = inl (first, refl)
one_first (p ∷ part) left [] rest e = inr (p ∷ part, refl, (left, e))
one_first (p ∷ part) left (f ∷ first) rest e =
    let heads : p ≡ f = cc in
    let tails : part ++ left ≡ first ++ rest = cc in
    elim (one_first part left first rest tails) [
      | inl b ↦ inl (b.0, (λ i. heads i ∷ b.1 i))
      | inr m ↦ inr (m.0, (λ i. heads i ∷ m.1 i), m.2)
    ]

empty_part : (part left : List ℕ) → part ++ left ≡ [] → part ≡ []
empty_part [] left e = refl
empty_part (p ∷ part) left e = absurd (cc)

module _ {S : Type 0} (gives : Giving S) where
  -- a line has the same text as its first 4,097 bytes
  pub gives_kept : ReadsFirst gives → (old new : S) (line cur text : List ℕ) → line ≡ take 4097 cur → gives old line text new → gives old cur text new
  gives_kept law old new line cur text kept g = (law old cur text new).0 (subst (λ l. gives old l text new) kept g)

  -- one line more
  pub gives_more : (old mid new : S) (ls : List (List ℕ)) (l text more : List ℕ) → GivesLines gives old ls text mid → gives mid l more new → GivesLines gives old (ls ++ l ∷ []) (text ++ more) new
  gives_more old mid new [] l text more a g =
      (more, [], new, subst (λ m. gives m l more new) a.1 g, (refl, refl), ap (λ t. t ++ more) a.0 ∙ sym (append-nil more))
  gives_more old mid new (x ∷ ls) l text more a g =
      (a.0, a.1 ++ more, a.2, a.3, gives_more a.2 mid new ls l a.1 more a.4 g, ap (λ t. t ++ more) a.5 ∙ append_assoc a.0 a.1 more)

  -- One piece after another.

  continues_nothing : (state : S) (line : List ℕ) → Continues gives state line state line [] []
  continues_nothing state line first input written a =
      subst (λ i. Answered gives first state i (written ++ []) line) (sym (append-nil input)) (subst (λ t. Answered gives first state input t line) (sym (append-nil written)) a)

  continues_then : (old mid new : S) (k l m a b s t : List ℕ) → Continues gives old k mid l a s → Continues gives mid l new m b t → Continues gives old k new m (a ++ b) (s ++ t)
  continues_then old mid new k l m a b s t f g first input written p =
      subst (λ i. Answered gives first new i (written ++ (s ++ t)) m) (append_assoc input a b)
      (subst (λ u. Answered gives first new ((input ++ a) ++ b) u m) (append_assoc written s t) (g first (input ++ a) (written ++ s) (f first input written p)))

  -- a part of a line is kept up to 4,097 bytes of the line
  pub keeps_part : (state : S) (line new part : List ℕ) → has_feed part ≡ false → new ≡ line ++ take (4097 - length line) part → Continues gives state line state new part []
  keeps_part state line new part no_feed e first input written a = record {
    done = a.done;
    cur = a.cur ++ part;
    lines = a.lines;
    parts = ap (λ t. t ++ part) a.parts ∙ append_assoc a.done a.cur part;
    open_line = list_any-append (λ b. b == 10) a.cur part ∙ (λ i. a.open_line i || no_feed i);
    split = a.split;
    whole = a.whole;
    gave = subst (λ t. GivesLines gives first a.lines t state) (sym (append-nil written)) a.gave;
    kept = e ∙ longer_kept line a.cur part a.kept;
  }

  -- the open line ends, and the text is that of the bytes kept of it
  feeds : ReadsFirst gives → (old new : S) (line text : List ℕ) → gives old line text new → Continues gives old line new [] (10 ∷ []) text
  feeds law old new line text g first input written a = record {
    done = a.done ++ a.cur ++ 10 ∷ [];
    cur = [];
    lines = a.lines ++ a.cur ∷ [];
    parts = ap (λ t. t ++ 10 ∷ []) a.parts ∙ sym (append-nil (a.done ++ a.cur ++ 10 ∷ []));
    open_line = refl;
    split = λ tail. ap lines_of (pieces tail) ∙ a.split (a.cur ++ 10 ∷ tail) ∙ ap (λ ls. a.lines ++ ls) (lines_of-feed a.cur tail a.open_line) ∙ sym (append_assoc a.lines (a.cur ∷ []) (lines_of tail));
    whole = λ tail. ap whole_lines (pieces tail) ∙ a.whole (a.cur ++ 10 ∷ tail) ∙ ap (λ t. a.done ++ t) (whole_lines-feed a.cur tail) ∙ sym (pieces (whole_lines tail));
    gave = gives_more first old new a.lines a.cur written text a.gave (gives_kept law old new line a.cur text a.kept g);
    kept = refl;
  }
    where
      pieces : (tail : List ℕ) → (a.done ++ a.cur ++ 10 ∷ []) ++ tail ≡ a.done ++ (a.cur ++ 10 ∷ tail)
      pieces tail = append_assoc (a.done ++ a.cur) (10 ∷ []) tail ∙ append_assoc a.done a.cur (10 ∷ tail)

  -- a part ends the open line, of which `line` is then kept
  pub ends_line : ReadsFirst gives → (old new : S) (kept line left part text : List ℕ) → has_feed part ≡ false → line ≡ kept ++ take (4097 - length kept) part → gives old line text new → left ≡ [] →
      Continues gives old kept new left (part ++ 10 ∷ []) text
  ends_line law old new kept line left part text no_feed e g empty =
      subst (λ l. Continues gives old kept new l (part ++ 10 ∷ []) text) (sym empty)
      (continues_then old old new kept line [] part (10 ∷ []) [] text (keeps_part old kept line part no_feed e) (feeds law old new line text g))

  -- the same if nothing was kept of the line before
  pub ends_whole : ReadsFirst gives → (old new : S) (kept part text : List ℕ) → has_feed part ≡ false → kept ≡ [] → gives old part text new → Continues gives old kept new kept (part ++ 10 ∷ []) text
  ends_whole law old new kept part text no_feed e g =
      subst (λ k. Continues gives old k new k (part ++ 10 ∷ []) text) (sym e)
      (ends_line law old new [] (take 4097 part) [] part text no_feed refl ((law old part text new).1 g) refl)

  -- a prefix of the text of the next lines is written after that of the lines before
  pub begins_lines : (first state after : S) (input : List ℕ) (before ls more : List (List ℕ)) (written text part : List ℕ) →
      lines_of input ≡ before ++ (ls ++ more) → GivesLines gives first before written state → GivesLines gives state ls text after → IsBeginning part text → BeginsText gives first input (written ++ part)
  begins_lines first state after input before [] more written text part e a g b =
      let none : part ≡ [] = empty_part part b.0 (b.1 ∙ g.0) in record {
        answered = before;
        more = more;
        text = written;
        part = part;
        after = state;
        lines = e;
        gave = a;
        begins = elim more as (λ m. BeginsNext gives state m part) [ [] ↦ none | l ∷ ls ↦ inl none ];
        is = refl;
      }
  begins_lines first state after input before (l ∷ ls) more written text part e a g b = elim (one_first part b.0 g.0 g.1 (b.1 ∙ g.5)) [
    | inl short ↦ record {
      answered = before;
      more = l ∷ ls ++ more;
      text = written;
      part = part;
      after = state;
      lines = e;
      gave = a;
      begins = inr (g.0, g.2, g.3, short);
      is = refl;
    }
    | inr long ↦ subst (BeginsText gives first input) (append_assoc written g.0 long.0 ∙ ap (λ t. written ++ t) (sym long.1))
        (begins_lines first g.2 after input (before ++ l ∷ []) ls more (written ++ g.0) g.1 long.0
        (e ∙ sym (append_assoc before (l ∷ []) (ls ++ more))) (gives_more first state g.2 before l written g.0 a g.3) g.4 long.2)
  ]

-- the lines of what was answered, whatever bytes follow
pub answered_lines : {S : Type 0} {gives : Giving S} {first state : S} {input text line : List ℕ} (a : Answered gives first state input text line) (tail : List ℕ) → lines_of (input ++ tail) ≡ a.lines ++ lines_of (a.cur ++ tail)
answered_lines a tail = ap (λ t. lines_of (t ++ tail)) a.parts ∙ ap lines_of (append_assoc a.done a.cur tail) ∙ a.split (a.cur ++ tail)

-- A piece, line by line.

pub reach_nothing : {S : Type 0} (gives : Giving S) (state : S) (line piece gathered : List ℕ) (held : Option (List ℕ)) → gathered ≡ [] → Reached gives state line state line piece piece gathered held held
reach_nothing gives state line piece gathered held e = record {
  seen = [];
  parts = refl;
  gathers = record { text = []; sent = []; goes = continues_nothing gives state line; wrote = appends_none held; all = sym e };
}

pub reached_all : {S : Type 0} {gives : Giving S} {old new : S} {kept line piece gathered : List ℕ} {h0 h : Option (List ℕ)} → Gathers gives old kept new line piece gathered h0 h → Reached gives old kept new line piece [] gathered h0 h
reached_all {piece} g = record { seen = piece; parts = sym (append-nil piece); gathers = g }

module _ {S : Type 0} {gives : Giving S} {old mid : S} {kept line piece rest gathered : List ℕ} {h0 h : Option (List ℕ)} (r : Reached gives old kept mid line piece rest gathered h0 h) where
  -- one more line is answered
  pub reach_line : {T E : Type 0} (new : S) (left part after more : List ℕ) (ended : Result T E) → is_err ended ≡ false → OnOk ended ((text : List ℕ) × Continues gives mid line new left (part ++ 10 ∷ []) text × (more ≡ gathered ++ text)) →
      cut_at 10 rest ≡ Some (part, after) → Reached gives old kept new left piece after more h0 h
  reach_line new left part after more (Err e) fine c cut = absurd (cc)
  reach_line new left part after more (Ok x) fine c cut = record {
    seen = r.seen ++ (part ++ 10 ∷ []);
    parts = r.parts ∙ ap (λ t. r.seen ++ t) ((cut_parts 10 rest part after cut).0 ∙ sym (append_assoc part (10 ∷ []) after)) ∙ sym (append_assoc r.seen (part ++ 10 ∷ []) after);
    gathers = record {
      text = r.gathers.text ++ c.0;
      sent = r.gathers.sent;
      goes = continues_then gives old mid new kept line left r.seen (part ++ 10 ∷ []) r.gathers.text c.0 r.gathers.goes c.1;
      wrote = r.gathers.wrote;
      all = ap (λ t. t ++ c.0) r.gathers.all ∙ append_assoc r.gathers.sent gathered c.0 ∙ ap (λ t. r.gathers.sent ++ t) (sym c.2);
    };
  }

  -- what was gathered is written
  pub reach_sent : (k : Option (List ℕ)) (empty : List ℕ) → Appends h k gathered → empty ≡ [] → Reached gives old kept mid line piece rest empty h0 k
  reach_sent k empty w e = record {
    seen = r.seen;
    parts = r.parts;
    gathers = record {
      text = r.gathers.text;
      sent = r.gathers.sent ++ gathered;
      goes = r.gathers.goes;
      wrote = appends_more h0 h k r.gathers.sent gathered r.gathers.wrote w;
      all = r.gathers.all ∙ sym (append-nil (r.gathers.sent ++ gathered)) ∙ ap (λ t. (r.gathers.sent ++ gathered) ++ t) (sym e);
    };
  }

  -- the rest is the beginning of a line, and is kept
  pub reach_end : (left : List ℕ) → cut_at 10 rest ≡ None → left ≡ line ++ take (4097 - length line) rest → Gathers gives old kept mid left piece gathered h0 h
  reach_end left cut e = record {
    text = r.gathers.text ++ [];
    sent = r.gathers.sent;
    goes = subst (λ p. Continues gives old kept mid left p (r.gathers.text ++ [])) (sym r.parts)
        (continues_then gives old mid mid kept line left r.seen rest r.gathers.text [] r.gathers.goes (keeps_part gives mid line left rest (cut_nowhere 10 rest cut) e));
    wrote = r.gathers.wrote;
    all = append-nil r.gathers.text ∙ r.gathers.all;
  }

  answered_seen : (first : S) (input written : List ℕ) → Answered gives first old input written kept → Answered gives first mid (input ++ r.seen) (written ++ (r.gathers.sent ++ gathered)) line
  answered_seen first input written a = subst (λ t. Answered gives first mid (input ++ r.seen) (written ++ t) line) r.gathers.all (r.gathers.goes first input written a)

  lines_seen : (first : S) (input written : List ℕ) (a : Answered gives first old input written kept) → lines_of (input ++ piece) ≡ (answered_seen first input written a).lines ++ lines_of ((answered_seen first input written a).cur ++ rest)
  lines_seen first input written a =
      ap (λ t. lines_of (input ++ t)) r.parts ∙ ap lines_of (sym (append_assoc input r.seen rest)) ∙ answered_lines (answered_seen first input written a) rest

  -- memory was refused
  pub reach_refused : (held : List ℕ) → held ≡ gathered → StopsWithin gives old kept piece held h0 h
  reach_refused held e = record { mid = mid; line = line; rest = rest; reached = subst (λ t. Reached gives old kept mid line piece rest t h0 h) (sym e) r }

  -- after that what was gathered is written
  pub reach_written : (k : Option (List ℕ)) → Appends h k gathered → WritesLines gives old kept piece h0 k
  reach_written k w = (
    r.gathers.sent ++ gathered,
    appends_more h0 h k r.gathers.sent gathered r.gathers.wrote w,
    λ first input written a. let b = answered_seen first input written a in
        record { answered = b.lines; more = lines_of (b.cur ++ rest); after = mid; lines = lines_seen first input written a; gave = b.gave },
  )

  -- the writer failed
  reach_failed : (k : Option (List ℕ)) (sent : List ℕ) → Appends h k sent → IsBeginning sent gathered → WritesBeginning gives old kept piece h0 k
  reach_failed k sent w b = (
    r.gathers.sent ++ sent,
    appends_more h0 h k r.gathers.sent sent r.gathers.wrote w,
    λ first input written part a p. let s = answered_seen first input written a in
        begins_lines gives first first mid (input ++ piece) [] s.lines (lines_of (s.cur ++ rest)) [] (written ++ (r.gathers.sent ++ gathered)) (written ++ part) (lines_seen first input written a) (refl, refl) s.gave
        (longer_beginning written part (r.gathers.sent ++ gathered) (beginning_of part (r.gathers.sent ++ sent) (r.gathers.sent ++ gathered) p (longer_beginning r.gathers.sent sent gathered b))),
  )

  pub reach_unsent : (new : S) (left held : List ℕ) (k : Option (List ℕ)) (f : DeviceFault) → TellsLine gathered h k (Err f) → AnswersPiece gives old kept new left piece held h0 k (Err f)
  reach_unsent new left held k Read w = absurd w
  reach_unsent new left held k Write w = reach_failed k w.0 w.1 w.2
  reach_unsent new left held k Memory w = absurd w

  -- what is gathered of a piece is written, all of it if the whole piece is answered
  pub sends : (new : S) (left : List ℕ) (k : Option (List ℕ)) (sent : Result (Unit {0}) DeviceFault) → (sent ≡ Ok tt → Gathers gives old kept new left piece gathered h0 h) → TellsLine gathered h k sent → PrintsPiece gives old kept new left piece h0 k sent
  sends new left k (Ok done) g w = let a = g refl in (a.text, a.goes, subst (Appends h0 k) (sym a.all) (appends_more h0 h k a.sent gathered a.wrote w))
  sends new left k (Err Read) g w = absurd w
  sends new left k (Err Write) g w = reach_failed k w.0 w.1 w.2
  sends new left k (Err Memory) g w = absurd w
