-- Text that is read piece by piece, answered line by line and written.
use Rattle.std.proofs.Common.{◌≡◌, ℕ, false, List, [], ◌∷◌, ◌++◌, length, take, refl, ap, arith, sym, ◌∙◌, subst}
use Rattle.std.proofs.lemmas.List.{append-nil, length-take}
use Rattle.std.specs.Prelude.{◌≢◌, Option, Result, Ok, Err}
use Rattle.pon_device.specs.Device.{Appends, Consumes, Keeps}
use Rattle.pon_device.specs.Streams.{TellsRead}
use Rattle.pon_device.proofs.Pieces.{appends_kept, appends_more}
use Rattle.pon_device.proofs.DeviceBytes.{appends_none, consumes_kept, consumes_more}
use Rattle.pon_device.specs.declared.fault.DeviceFault.{DeviceFault}
use Rattle.pon_device.specs.declared.fault.DeviceFault.TheVariants.{Read, Write, Memory}
use Rattle.pon_text.specs.Lines.{lines_of, whole_lines}
use Rattle.pon_text.specs.Giving.{Giving, GivesLines, ReadsFirst}
use Rattle.pon_text.specs.Planning.{IsText, Planned, PrintsLine}
use Rattle.pon_text.specs.Progress.{Answered, Continues, PrintsPiece}
use Rattle.pon_text.proofs.Continuing.{answered_lines, begins_lines, gives_kept, gives_more, has_feed, lone_line, reach_nothing, reach_written}

no_whole_line : (bs : List ℕ) → has_feed bs ≡ false → whole_lines bs ≡ []
no_whole_line [] h = refl
no_whole_line (b ∷ bs) h = rw h refl

nothing_kept : (line cur : List ℕ) → line ≡ [] → line ≡ take 4097 cur → cur ≡ []
nothing_kept line [] e k = refl
nothing_kept line (b ∷ cur) e k = absurd (omega (arith, ap length (sym k ∙ e), length-take 4097 (b ∷ cur)))

-- the progress of the reading
pub record Progress {S : Type 0} (gives : Giving S) (first : S) (left_first left held_first held : Option (List ℕ)) (state : S) (line : List ℕ) : Type 0 where
  pub input : List ℕ
  pub written : List ℕ
  pub read : Consumes left_first left input
  pub wrote : Appends held_first held written
  pub answered : Answered gives first state input written line

module _ {S : Type 0} {gives : Giving S} {first state : S} {l0 l h0 h : Option (List ℕ)} {line : List ℕ} (p : Progress gives first l0 l h0 h state line) where
  -- a piece was answered
  pub printed_piece : (m k : Option (List ℕ)) (after : S) (new piece text : List ℕ) → Consumes l m piece → Continues gives state line after new piece text → Appends h k text → Progress gives first l0 m h0 k after new
  printed_piece m k after new piece text c g w = record {
    input = p.input ++ piece;
    written = p.written ++ text;
    read = consumes_more l0 l m p.input piece p.read c;
    wrote = appends_more h0 h k p.written text p.wrote w;
    answered = g first p.input p.written p.answered;
  }

  more_planned : {T : Type 0} (m k : Option (List ℕ)) (last : S) (piece text : List ℕ) (r : Result T DeviceFault) → Consumes l m piece → Appends h k text → IsText gives first last (p.input ++ piece) (p.written ++ text) r → Planned gives first last l0 m h0 k r
  more_planned m k last piece text r c w t = record {
    input = p.input ++ piece;
    written = p.written ++ text;
    read = consumes_more l0 l m p.input piece p.read c;
    wrote = appends_more h0 h k p.written text p.wrote w;
    text = t;
  }

  -- a piece was answered in part
  pub print_failed : {T : Type 0} (m k : Option (List ℕ)) (after last : S) (new piece : List ℕ) (f : DeviceFault) → Consumes l m piece → PrintsPiece gives state line after new piece h k (Err f) → Planned {T = T} gives first last l0 m h0 k (Err f)
  print_failed m k after last new piece Read c w = absurd w
  print_failed m k after last new piece Write c w = more_planned m k last piece w.0 (Err Write) c w.1 (w.2 first p.input p.written w.0 p.answered ([], append-nil w.0))
  print_failed m k after last new piece Memory c w = more_planned m k last piece w.0 (Err Memory) c w.1 (w.2 first p.input p.written p.answered)

  open_line : line ≢ [] → lines_of (p.input ++ []) ≡ p.answered.lines ++ p.answered.cur ∷ []
  open_line n = answered_lines p.answered [] ∙ ap (λ t. p.answered.lines ++ lines_of t) (append-nil p.answered.cur)
      ∙ ap (λ ls. p.answered.lines ++ ls) (lone_line p.answered.cur p.answered.open_line (λ e. n (p.answered.kept ∙ ap (take 4097) e)))

  -- the input ended after a line without its line feed
  pub last_line : ReadsFirst gives → (m k : Option (List ℕ)) (after : S) (r : Result (Unit {0}) DeviceFault) → Consumes l m [] → line ≢ [] → PrintsLine gives state after line h k r → Planned {T = Unit {0}} gives first after l0 m h0 k r
  last_line law m k after (Ok done) c n w = more_planned m k after [] w.0 (Ok done) c w.2
      (subst (λ ls. GivesLines gives first ls (p.written ++ w.0) after) (sym (open_line n))
      (gives_more gives first state after p.answered.lines p.answered.cur p.written w.0 p.answered.gave (gives_kept gives law state after line p.answered.cur w.0 p.answered.kept w.1)))
  last_line law m k after (Err Read) c n w = absurd w
  last_line law m k after (Err Write) c n w = more_planned m k after [] w.1 (Err Write) c w.3
      (begins_lines gives first state after (p.input ++ []) p.answered.lines (p.answered.cur ∷ []) [] p.written w.0 w.1 (open_line n) p.answered.gave
      (w.0, [], after, gives_kept gives law state after line p.answered.cur w.0 p.answered.kept w.2, (refl, refl), sym (append-nil w.0)) w.4)
  last_line law m k after (Err Memory) c n w =
      print_failed m k after after line [] Memory c (reach_written (reach_nothing gives state line [] [] h refl) k (appends_kept h h k [] (appends_none h) w))

  -- the input ended after a line feed
  pub no_more_lines : (m : Option (List ℕ)) → Consumes l m [] → line ≡ [] → Planned {T = Unit {0}} gives first state l0 m h0 h (Ok tt)
  no_more_lines m c e =
      let a = p.answered in
      let all : lines_of (p.input ++ []) ≡ a.lines = answered_lines a [] ∙ ap (λ t. a.lines ++ lines_of t) (append-nil a.cur ∙ nothing_kept line a.cur e a.kept) ∙ append-nil a.lines in
      more_planned m h state [] [] (Ok tt) c (appends_none h)
      (subst (λ t. GivesLines gives first (lines_of (p.input ++ [])) t state) (sym (append-nil p.written)) (subst (λ ls. GivesLines gives first ls p.written state) (sym all) a.gave))

  -- the reading ended: the text of all whole lines is written
  pub stopped : (m : Option (List ℕ)) → Keeps l m → Planned {T = Unit {0}} gives first state l0 m h0 h (Err Read)
  stopped m kept =
      let a = p.answered in
      let whole : whole_lines p.input ≡ a.done = ap whole_lines a.parts ∙ a.whole a.cur ∙ ap (λ t. a.done ++ t) (no_whole_line a.cur a.open_line) ∙ append-nil a.done in
      let all : lines_of (whole_lines p.input) ≡ a.lines = ap lines_of (whole ∙ sym (append-nil a.done)) ∙ a.split [] ∙ append-nil a.lines in
      record {
        input = p.input;
        written = p.written;
        read = consumes_kept l0 l m p.input p.read kept;
        wrote = p.wrote;
        text = subst (λ ls. GivesLines gives first ls p.written state) (sym all) a.gave;
      }

-- no read failed while a line or a piece was answered
module _ {S : Type 0} (gives : Giving S) (old new : S) (line : List ℕ) (h k : Option (List ℕ)) (calls_old calls_new failures_old failures_new : ℕ) (same : failures_new ≡ failures_old) where
  pub line_tells_read : (r : Result (Unit {0}) DeviceFault) → PrintsLine gives old new line h k r → TellsRead calls_old calls_new failures_old failures_new r
  line_tells_read (Ok done) w = same
  line_tells_read (Err Read) w = absurd w
  line_tells_read (Err Write) w = same
  line_tells_read (Err Memory) w = same

  pub piece_tells_read : (after piece : List ℕ) (f : DeviceFault) → PrintsPiece gives old line new after piece h k (Err f) → TellsRead {T = Unit {0}} calls_old calls_new failures_old failures_new (Err f)
  piece_tells_read after piece Read w = absurd w
  piece_tells_read after piece Write w = same
  piece_tells_read after piece Memory w = same

-- all was written, and the flush failed
pub not_flushed : {S D T : Type 0} (gives : Giving S) (first last : S) (l0 l h0 h k : Option (List ℕ)) (done : D) → Planned {T = D} gives first last l0 l h0 h (Ok done) → Keeps h k → Planned {T = T} gives first last l0 l h0 k (Err Write)
not_flushed gives first last l0 l h0 h k done p kept = record {
  input = p.input;
  written = p.written;
  read = p.read;
  wrote = appends_kept h0 h k p.written p.wrote kept;
  text = begins_lines gives first first last p.input [] (lines_of p.input) [] [] p.written p.written (sym (append-nil (lines_of p.input))) (refl, refl) p.text ([], append-nil p.written);
}
