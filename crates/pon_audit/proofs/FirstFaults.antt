-- The first chapter that fails.
use Rattle.std.proofs.Common.{◌≡◌, ℕ, zero, suc, ◌+◌, ◌<◌, ◌≤◌, List, [], ◌∷◌, ◌++◌, length, take, drop, get_or, set, Option, Some, None, refl, ap, sym, ◌∙◌, subst, append_assoc, arith, inl, inr, ltb-true}
use Rattle.std.specs.Prelude.{◌⊎◌, Bool, true, false, if◌then◌else◌, nat_lt, All, MatchOption, replicate, slice_get, slice_index_or}
use Rattle.std.specs.List.{AllZip}
use Rattle.std.proofs.lemmas.Bool.{cases_eq}
use Rattle.std.proofs.lemmas.List.{append-nil, get_or-set_same, get_or-set_other, take-append-drop, take-append-le, take_all, take_at, take_more}
use Rattle.std.proofs.lemmas.List.Elements.{All-cons, All-nil, All-push, All-weaker}
use Rattle.std.proofs.lemmas.List.Quantifiers.{all_pairs_push}
use Rattle.std.proofs.lemmas.Slice.Zip.{AllZip-long}
use Rattle.std.proofs.lemmas.Option.{get_or_from_slice_get}
use Rattle.pon_units.specs.declared.limits.TheConstants.{MAX_PORTS}
use Rattle.pon_state.specs.State.{State}
use Rattle.pon_history.specs.Chapters.{present_state}
use Rattle.pon_record.specs.Chapters.{PlacedChapter}
use Rattle.pon_audit.specs.Openings.{chapter_of, state_of}
use Rattle.pon_audit.specs.Judging.{AreJudged, EndsWith, IsJudgment, IsEndOf, IsKeptEnd, IsLast, IsLastOf, IsPlaceOf, OpensAt, TellsBad}
use Rattle.pon_audit.specs.Verdicts.{AreGood, Ascends, ChapterFails, Continues, HasChapters, IsChained, IsFirstFault, IsGoodChapter, IsVerdict, MayStandAfter, Rises}
use Rattle.pon_audit.specs.declared.chapters.Fault.{Fault}
use Rattle.pon_audit.specs.declared.chapters.Judged.{Judged}
use Rattle.pon_audit.specs.EndTables.{EndTable, after_end, end_at, pushed, put, replaced, replaced_if}
use Rattle.pon_audit.specs.declared.ends.KeptEnds.{KeptEnds}
use Rattle.pon_audit.specs.declared.ends.KeptEnds.TheVariants.{OfPorts, OfChapters}
use Rattle.pon_audit.specs.declared.ends.End.{End}
use Rattle.pon_audit.specs.declared.verdict.AuditReason.{AuditReason}
use Rattle.pon_audit.specs.declared.verdict.Verdict.{Verdict}
use Rattle.pon_audit.specs.declared.verdict.Verdict.TheVariants.{Good, Bad, BadFormat, Truncated}

-- Two lists with a fact of the items at each index.

some_same : {A : Type 0} (a x : A) → Option.Some a ≡ Option.Some x → a ≡ x
some_same a x e = cc

zip_get : {A B : Type 0} (R : A → B → Type 0) (xs : List A) (ys : List B) (i : ℕ) (x : A) → AllZip R xs ys → slice_get xs i ≡ Some x → (y : B) × (slice_get ys i ≡ Some y) × R x y
zip_get R [] [] i x h e = absurd cc
zip_get R [] (y ∷ ys) i x h e = absurd h
zip_get R (a ∷ xs) [] i x h e = absurd h
zip_get R (a ∷ xs) (b ∷ ys) zero x h e = (b, refl, subst (λ a. R a b) (some_same a x e) h.0)
zip_get R (a ∷ xs) (b ∷ ys) (suc i) x h e = zip_get R xs ys i x h.1 e

at_place : {A B : Type 0} (R : A → B → Type 0) (xs : List A) (ys : List B) (i : ℕ) (x : A) (y : B) → AllZip R xs ys → i < length xs → R (get_or xs i x) (get_or ys i y)
at_place R [] ys i x y h lt = absurd (omega (arith, lt))
at_place R (a ∷ xs) [] i x y h lt = absurd h
at_place R (a ∷ xs) (b ∷ ys) zero x y h lt = h.0
at_place R (a ∷ xs) (b ∷ ys) (suc i) x y h lt = at_place R xs ys i x y h.1 (omega (arith, lt))

zip_push : {A B : Type 0} (R : A → B → Type 0) (xs : List A) (ys : List B) (x : A) (y : B) → AllZip R xs ys → R x y → AllZip R (xs ++ x ∷ []) (ys ++ y ∷ [])
zip_push R [] [] x y h r = (r, tt)
zip_push R [] (b ∷ ys) x y h r = absurd h
zip_push R (a ∷ xs) [] x y h r = absurd h
zip_push R (a ∷ xs) (b ∷ ys) x y h r = (h.0, zip_push R xs ys x y h.1 r)

all_left : {A B : Type 0} (R : A → B → Type 0) (P : A → Type 0) (Q : B → Type 0) (xs : List A) (ys : List B) → ((x : A) (y : B) → R x y → Q y → P x) → AllZip R xs ys → All Q ys → All P xs
all_left R P Q [] [] f h q = All-nil P
all_left R P Q [] (b ∷ ys) f h q = absurd h
all_left R P Q (a ∷ xs) [] f h q = absurd h
all_left R P Q (a ∷ xs) (b ∷ ys) f h q = All-cons P a xs (f a b h.0 (q 0 b (omega arith))) (all_left R P Q xs ys f h.1 (λ i d lt. q (suc i) d (omega (arith, lt))))

all_right : {A B : Type 0} (R : A → B → Type 0) (P : A → Type 0) (Q : B → Type 0) (xs : List A) (ys : List B) → ((x : A) (y : B) → R x y → P x → Q y) → AllZip R xs ys → All P xs → All Q ys
all_right R P Q [] [] f h p = All-nil Q
all_right R P Q [] (b ∷ ys) f h p = absurd h
all_right R P Q (a ∷ xs) [] f h p = absurd h
all_right R P Q (a ∷ xs) (b ∷ ys) f h p = All-cons Q b ys (f a b h.0 (p 0 a (omega arith))) (all_right R P Q xs ys f h.1 (λ i d lt. p (suc i) d (omega (arith, lt))))

within : {X : Type 0} (xs : List X) (i : ℕ) (x : X) → slice_get xs i ≡ Some x → i < length xs
within [] i x h = absurd cc
within (y ∷ xs) zero x h = omega arith
within (y ∷ xs) (suc i) x h = omega (arith, within xs i x h)

get_front : {X : Type 0} (xs ys : List X) (i : ℕ) (x : X) → slice_get xs i ≡ Some x → slice_get (xs ++ ys) i ≡ Some x
get_front [] ys i x h = absurd cc
get_front (y ∷ xs) ys zero x h = h
get_front (y ∷ xs) ys (suc i) x h = get_front xs ys i x h

get_last : {X : Type 0} (xs : List X) (x : X) → slice_get (xs ++ x ∷ []) (length xs) ≡ Some x
get_last [] x = refl
get_last (y ∷ xs) x = get_last xs x

-- An earlier chapter of the port.

module _ (earlier : List PlacedChapter) (c : PlacedChapter) where
  pub no_earlier : IsLastOf earlier c.body.port None → MayStandAfter earlier c
  no_earlier h = record {
    chained = All-weaker (λ d. d.body.port ≡ c.body.port → ⊥) (λ d. Continues d c) (λ d n e. absurd (n e)) earlier h;
    rising = All-weaker (λ d. d.body.port ≡ c.body.port → ⊥) (λ d. Rises d c) (λ d n e. absurd (n e)) earlier h;
  }

  module _ (last : End) (l : IsLast earlier c.body.port last) where
    --   what all earlier chapters have, the last of the port has
    of_last : (P : PlacedChapter → Type 0) → All P earlier → P l.chapter
    of_last P h = subst P (get_or_from_slice_get earlier l.place l.chapter l.chapter l.here) (h l.place l.chapter (within earlier l.place l.chapter l.here))

    pub not_ascending : c.body.number ≤ last.number → Ascends earlier c → ⊥
    not_ascending le h = let less = of_last (λ d. Rises d c) h l.of_port in omega (arith, le, less, l.of_number)

    ascending : last.number < c.body.number → Ascends earlier c
    ascending lt = All-weaker (λ d. d.body.port ≡ c.body.port → (d.body.number < last.number) ⊎ (d ≡ l.chapter)) (λ d. Rises d c)
        (λ d h e. elim (h e) [
          | inl less ↦ omega (arith, less, lt)
          | inr is ↦ omega (arith, ap (λ d. d.body.number) is, l.of_number, lt)
        ]) earlier l.others

    pub far_above : last.number + 1 < c.body.number → MayStandAfter earlier c
    far_above lt = record {
      chained = All-weaker (λ d. d.body.port ≡ c.body.port → (d.body.number < last.number) ⊎ (d ≡ l.chapter)) (λ d. Continues d c)
          (λ d h e n. elim (h e) [
            | inl less ↦ absurd (omega (arith, less, lt, n))
            | inr is ↦ absurd (omega (arith, ap (λ d. d.body.number) is, l.of_number, lt, n))
          ]) earlier l.others;
      rising = ascending (omega (arith, lt));
    }

    pub next_above : c.body.number ≡ last.number + 1 → state_of c.body.opening ≡ last.end → MayStandAfter earlier c
    next_above next opens = record {
      chained = All-weaker (λ d. d.body.port ≡ c.body.port → (d.body.number < last.number) ⊎ (d ≡ l.chapter)) (λ d. Continues d c)
          (λ d h e n. elim (h e) [
            | inl less ↦ absurd (omega (arith, less, next, n))
            | inr is ↦ opens ∙ l.ends.kept.replayed ∙ ap (λ d. present_state (chapter_of d.body)) (sym is)
          ]) earlier l.others;
      rising = ascending (omega (arith, next));
    }

    pub not_chained : c.body.number ≡ last.number + 1 → (state_of c.body.opening ≡ last.end → ⊥) → IsChained earlier c → ⊥
    not_chained next other h =
        other (of_last (λ d. Continues d c) h l.of_port (next ∙ ap (λ n. n + 1) l.of_number) ∙ sym l.ends.kept.replayed)

-- The ends of the earlier chapters.

module _ (earlier : List PlacedChapter) (ends : List End) (zip : AllZip IsEndOf earlier ends) where
  pub all_kept : All IsKeptEnd ends
  all_kept = all_right IsEndOf (λ d. Unit {0}) IsKeptEnd earlier ends (λ d e is any. (d.body, is.ends.kept)) zip (λ i d lt. tt)

  pub chained_if : (c : PlacedChapter) → All (OpensAt c) ends → IsChained earlier c
  chained_if c h = all_left IsEndOf (λ d. Continues d c) (OpensAt c) earlier ends (λ d e is opens same next. opens (is.of_port ∙ same) (next ∙ ap (λ n. n + 1) (sym is.of_number)) ∙ is.ends.kept.replayed) zip h

  pub opens_if : (c : PlacedChapter) → IsChained earlier c → All (OpensAt c) ends
  opens_if c h = all_right IsEndOf (λ d. Continues d c) (OpensAt c) earlier ends (λ d e is follows same next. follows (sym is.of_port ∙ same) (next ∙ ap (λ n. n + 1) is.of_number) ∙ sym is.ends.kept.replayed) zip h

-- the last end of a port
pub last_told : (earlier : List PlacedChapter) (ends : List End) (port : ℕ) (o : Option ℕ) → IsPlaceOf earlier ends port o → IsLastOf earlier port (end_at ends o)
last_told earlier ends port None h = h
last_told earlier ends port (Some place) h = subst (IsLastOf earlier port) (sym h.here) h.is_last

-- The table with one more chapter.

which : (kept : KeptEnds) (o : Option ℕ) → ((kept ≡ OfPorts) × (o ≡ replaced_if kept o)) ⊎ (replaced_if kept o ≡ None)
which OfPorts o = inl (refl, refl)
which OfChapters o = inr refl

module _ (earlier : List PlacedChapter) (c : PlacedChapter) where
  --   the last chapter of another port stays the last
  still_last : (port : ℕ) (last : End) → (c.body.port ≡ port → ⊥) → IsLast earlier port last → IsLast (earlier ++ c ∷ []) port last
  still_last port last other l = record {
    place = l.place;
    chapter = l.chapter;
    here = get_front earlier (c ∷ []) l.place l.chapter l.here;
    of_port = l.of_port;
    of_number = l.of_number;
    ends = l.ends;
    others = All-push (λ d. d.body.port ≡ port → (d.body.number < last.number) ⊎ (d ≡ l.chapter)) earlier c l.others (λ e. absurd (other e));
  }

  --   the chapter is the last of its own
  now_last : (end : State) → Ascends earlier c → EndsWith c end → IsLast (earlier ++ c ∷ []) c.body.port (record { port = c.body.port; number = c.body.number; end = end })
  now_last end rises ends = record {
    place = length earlier;
    chapter = c;
    here = get_last earlier c;
    of_port = refl;
    of_number = refl;
    ends = ends;
    others = All-push (λ d. d.body.port ≡ c.body.port → (d.body.number < c.body.number) ⊎ (d ≡ c)) earlier c
        (All-weaker (λ d. Rises d c) (λ d. d.body.port ≡ c.body.port → (d.body.number < c.body.number) ⊎ (d ≡ c)) (λ d h e. inl (h e)) earlier rises)
        (λ e. inr refl);
  }

  --   an end that stays at its place
  still_held : (ends more : List End) (port : ℕ) (o : Option ℕ) → ((place : ℕ) (last : End) → o ≡ Some place → slice_get ends place ≡ Some last → last.port ≡ port → slice_get more place ≡ Some last)
      → (c.body.port ≡ port → ⊥) → IsPlaceOf earlier ends port o → IsPlaceOf (earlier ++ c ∷ []) more port o
  still_held ends more port None stays other h = All-push (λ d. d.body.port ≡ port → ⊥) earlier c h other
  still_held ends more port (Some place) stays other h = record {
    last = h.last;
    here = stays place h.last refl h.here h.named;
    named = h.named;
    is_last = still_last port h.last other h.is_last;
  }

get_set_same : {X : Type 0} (xs : List X) (i : ℕ) (x : X) → i < length xs → slice_get (set xs i x) i ≡ Some x
get_set_same [] i x lt = absurd (omega (arith, lt))
get_set_same (y ∷ xs) zero x lt = refl
get_set_same (y ∷ xs) (suc i) x lt = get_set_same xs i x (omega (arith, lt))

get_set_other : {X : Type 0} (xs : List X) (i j : ℕ) (x : X) → (i ≡ j → ⊥) → slice_get (set xs i x) j ≡ slice_get xs j
get_set_other [] i j x other = refl
get_set_other (y ∷ xs) zero zero x other = absurd (other refl)
get_set_other (y ∷ xs) zero (suc j) x other = refl
get_set_other (y ∷ xs) (suc i) zero x other = refl
get_set_other (y ∷ xs) (suc i) (suc j) x other = get_set_other xs i j x (λ e. other (ap suc e))

module _ (earlier : List PlacedChapter) (c : PlacedChapter) (t : EndTable) (end : State) (long : length t.places ≡ MAX_PORTS) (judged : AreJudged earlier t) (stands : MayStandAfter earlier c) (ends : EndsWith c end) where
  abbrev pub last : End
  last = record { port = c.body.port; number = c.body.number; end = end }

  all_good : AreGood (earlier ++ c ∷ [])
  all_good = record {
    each = All-push IsGoodChapter earlier c judged.good.each ends.good;
    chained = all_pairs_push Continues earlier c judged.good.chained stands.chained;
    rising = all_pairs_push Rises earlier c judged.good.rising stands.rising;
  }

  --   its end is added after those that are kept
  judged_pushed : AreJudged (earlier ++ c ∷ []) (pushed t last)
  judged_pushed = record {
    good = all_good;
    each = λ all. zip_push IsEndOf earlier t.ends c last (judged.each all) (record { of_port = refl; of_number = refl; ends = ends });
    lasts = λ port below. elim (cases_eq c.body.port port) [
      | inl own ↦ subst (IsPlaceOf (earlier ++ c ∷ []) (t.ends ++ last ∷ []) port)
          (sym (ap (λ p. slice_index_or (set t.places p (Some (length t.ends))) port None) own ∙ get_or-set_same t.places port (Some (length t.ends)) None (omega (arith, below, long))))
          (record { last = last; here = get_last t.ends last; named = own; is_last = subst (λ p. IsLast (earlier ++ c ∷ []) p last) own (now_last earlier c end stands.rising ends) })
      | inr other ↦ subst (IsPlaceOf (earlier ++ c ∷ []) (t.ends ++ last ∷ []) port)
          (sym (get_or-set_other t.places c.body.port port (Some (length t.ends)) None (λ e. other (sym e))))
          (still_held earlier c t.ends (t.ends ++ last ∷ []) port (slice_index_or t.places port None) (λ place x e here named. get_front t.ends (last ∷ []) place x here) other (judged.lasts port below))
    ];
  }

  --   or takes the place of the last one of its port
  judged_put : (place : ℕ) → place < length t.ends → t.kept ≡ OfPorts → slice_index_or t.places c.body.port None ≡ Some place → c.body.port < MAX_PORTS
      → AreJudged (earlier ++ c ∷ []) (record { kept = t.kept; ends = set t.ends place last; places = t.places })
  judged_put place lt kept here range = record {
    good = all_good;
    each = λ all. absurd (cc (kept, all));
    lasts = λ port below. elim (cases_eq c.body.port port) [
      | inl own ↦ subst (IsPlaceOf (earlier ++ c ∷ []) (set t.ends place last) port)
          (sym (ap (λ p. slice_index_or t.places p None) (sym own) ∙ here))
          (record { last = last; here = get_set_same t.ends place last lt; named = own; is_last = subst (λ p. IsLast (earlier ++ c ∷ []) p last) own (now_last earlier c end stands.rising ends) })
      | inr other ↦ still_held earlier c t.ends (set t.ends place last) port (slice_index_or t.places port None)
          (λ at x e there named.
          let held = subst (IsPlaceOf earlier t.ends c.body.port) here (judged.lasts c.body.port range) in
          get_set_other t.ends place at last (λ same. other (sym held.named ∙ ap (λ y. y.port) (some_same held.last x (sym held.here ∙ ap (slice_get t.ends) same ∙ there)) ∙ named)) ∙ there)
          other (judged.lasts port below)
    ];
  }

  put_where : (place : ℕ) (inside : Bool) → nat_lt place (length t.ends) ≡ inside → t.kept ≡ OfPorts → slice_index_or t.places c.body.port None ≡ Some place → c.body.port < MAX_PORTS
      → AreJudged (earlier ++ c ∷ []) (if inside then record { kept = t.kept; ends = set t.ends place last; places = t.places } else pushed t last)
  put_where place true is kept here range = judged_put place (ltb-true place (length t.ends) is) kept here range
  put_where place false is kept here range = judged_pushed

  put_judged : (o : Option ℕ) → ((t.kept ≡ OfPorts) × (slice_index_or t.places c.body.port None ≡ o)) ⊎ (o ≡ None) → c.body.port < MAX_PORTS → AreJudged (earlier ++ c ∷ []) (put t last o)
  put_judged None from range = judged_pushed
  put_judged (Some place) (inl from) range = put_where place (nat_lt place (length t.ends)) refl from.0 from.1 range
  put_judged (Some place) (inr none) range = absurd (cc none)

  pub one_more_judged : c.body.port < MAX_PORTS → (new : EndTable) → new ≡ after_end t last → AreJudged (earlier ++ c ∷ []) new
  one_more_judged range new is = subst (AreJudged (earlier ++ c ∷ [])) (sym is)
      (put_judged (replaced t c.body.port) (which t.kept (slice_index_or t.places c.body.port None)) range)

-- no chapters are judged yet
pub replicate_push : {X : Type 0} (n : ℕ) (x : X) → replicate n x ++ x ∷ [] ≡ replicate (n + 1) x
replicate_push zero x = refl
replicate_push (suc n) x =
    let more : suc (n + 1) ≡ suc n + 1 = omega arith in
    ap (λ t. x ∷ t) (replicate_push n x) ∙ ap (λ m. replicate m x) more

abbrev no_place : Option ℕ
no_place = None

none_kept : (n port : ℕ) → slice_index_or (replicate n no_place) port None ≡ None
none_kept zero port = refl
none_kept (suc n) zero = refl
none_kept (suc n) (suc port) = none_kept n port

pub none_judged : (t : EndTable) (kept : KeptEnds) → t ≡ record { kept = kept; ends = []; places = replicate MAX_PORTS None } → AreJudged [] t
none_judged t kept is = subst (AreJudged []) (sym is) (record {
  good = record { each = All-nil IsGoodChapter; chained = λ i j d lt less. absurd (omega (arith, less)); rising = λ i j d lt less. absurd (omega (arith, less)) };
  each = λ all. tt;
  lasts = λ port lt. subst (IsPlaceOf [] [] port) (sym (none_kept MAX_PORTS port)) (All-nil (λ d. d.body.port ≡ port → ⊥));
})

-- A chapter that fails after good ones.

take_front : {X : Type 0} (xs ys : List X) → take (length xs) (xs ++ ys) ≡ xs
take_front xs ys = take_at xs ys (length xs) refl

pub first_here : (earlier : List PlacedChapter) (c : PlacedChapter) (port number : ℕ) (f : Fault) → AreGood earlier → port ≡ c.body.port → number ≡ c.body.number → ChapterFails earlier c f.index f.why → IsFirstFault (earlier ++ c ∷ []) port number f.index f.why
first_here earlier c port number f good is_port is_number fails =
    let front : earlier ≡ take (length earlier) (earlier ++ c ∷ []) = sym (take_front earlier (c ∷ [])) in
    record {
      place = length earlier;
      chapter = c;
      here = get_last earlier c;
      good = subst AreGood front good;
      fails = subst (λ l. ChapterFails l c f.index f.why) front fails;
      of_port = is_port;
      of_number = is_number;
    }

-- it is the first one also if more chapters follow
pub first_more : (cs more : List PlacedChapter) (port number index : ℕ) (w : AuditReason) → IsFirstFault cs port number index w → IsFirstFault (cs ++ more) port number index w
first_more cs more port number index w f =
    let lt : f.place < length cs = within cs f.place f.chapter f.here in
    let front : take f.place cs ≡ take f.place (cs ++ more) = sym (take-append-le f.place cs more (omega (arith, lt))) in
    record {
      place = f.place;
      chapter = f.chapter;
      here = get_front cs more f.place f.chapter f.here;
      good = subst AreGood front f.good;
      fails = subst (λ l. ChapterFails l f.chapter index w) front f.fails;
      of_port = f.of_port;
      of_number = f.of_number;
    }

pub told_more : (cs more : List PlacedChapter) (v : Verdict) → TellsBad cs v → TellsBad (cs ++ more) v
told_more cs more (Good maps) told = absurd told
told_more cs more (Bad port number index w) told = first_more cs more port number index w told
told_more cs more (BadFormat at) told = absurd told
told_more cs more (Truncated at) told = absurd told

-- A batch of chapters.

module _ (earlier cs : List PlacedChapter) (i : ℕ) (c : PlacedChapter) (lt : i < length cs) (here : c ≡ get_or cs i c) where
  one_more_of : (earlier ++ take i cs) ++ c ∷ [] ≡ earlier ++ take (i + 1) cs
  one_more_of = append_assoc earlier (take i cs) (c ∷ []) ∙ ap (λ l. earlier ++ l) (ap (λ x. take i cs ++ x ∷ []) here ∙ sym (take_more cs i c lt))

  pub judged_in : (t : EndTable) → AreJudged ((earlier ++ take i cs) ++ c ∷ []) t → AreJudged (earlier ++ take (i + 1) cs) t
  judged_in t h = subst (λ l. AreJudged l t) one_more_of h

  pub told_in : (v : Verdict) → TellsBad ((earlier ++ take i cs) ++ c ∷ []) v → TellsBad (earlier ++ cs) v
  told_in v told =
      let whole : (earlier ++ take (i + 1) cs) ++ drop (i + 1) cs ≡ earlier ++ cs = append_assoc earlier (take (i + 1) cs) (drop (i + 1) cs) ∙ ap (λ l. earlier ++ l) (take-append-drop (i + 1) cs) in
      subst (λ l. TellsBad l v) (ap (λ l. l ++ drop (i + 1) cs) one_more_of ∙ whole) (told_more ((earlier ++ take i cs) ++ c ∷ []) (drop (i + 1) cs) v told)

pub all_judged : (earlier cs : List PlacedChapter) (i : ℕ) (t : EndTable) → length cs ≤ i → AreJudged (earlier ++ take i cs) t → AreJudged (earlier ++ cs) t
all_judged earlier cs i t le h = subst (λ l. AreJudged (earlier ++ l) t) (take_all i cs le) h

pub none_yet : (earlier cs : List PlacedChapter) (t : EndTable) → AreJudged earlier t → AreJudged (earlier ++ take 0 cs) t
none_yet earlier cs t h = subst (λ l. AreJudged l t) (sym (append-nil earlier)) h

pub answer_at : (cs : List PlacedChapter) (answers : List Judged) (n place : ℕ) (c : PlacedChapter) (a : Judged) → AllZip IsJudgment cs answers → n < length answers → place ≡ n → c ≡ get_or cs place c → a ≡ get_or answers n a → IsJudgment c a
answer_at cs answers n place c a zip lt same here is =
    let within_cs : n < length cs = omega (arith, lt, AllZip-long IsJudgment cs answers zip) in
    let there : c ≡ get_or cs n c = here ∙ ap (λ i. get_or cs i c) same in
    subst (λ x. IsJudgment x a) (sym there) (subst (IsJudgment (get_or cs n c)) (sym is) (at_place IsJudgment cs answers n c a zip within_cs))

pub as_many : (cs : List PlacedChapter) (answers : List Judged) → AllZip IsJudgment cs answers → length answers ≡ length cs
as_many cs answers zip = AllZip-long IsJudgment cs answers zip

-- the verdict stays the same if more chapters follow
pub still_told : (o : Option Verdict) (v : Verdict) (P Q : Type 0) (cs more : List PlacedChapter) → o ≡ Some v → MatchOption o P (TellsBad cs) → MatchOption o Q (TellsBad (cs ++ more))
still_told None v P Q cs more e h = absurd cc
still_told (Some w) v P Q cs more e h = told_more cs more w h

-- a verdict that gives the first chapter that fails
pub bad_told : (bytes : List ℕ) (cs : List PlacedChapter) (v : Verdict) → HasChapters bytes cs → TellsBad cs v → IsVerdict bytes v
bad_told bytes cs (Good maps) has told = absurd told
bad_told bytes cs (Bad p n i w) has told = (cs, has, told)
bad_told bytes cs (BadFormat at) has told = absurd told
bad_told bytes cs (Truncated at) has told = absurd told
