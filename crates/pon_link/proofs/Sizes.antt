-- The size of a record that bytes give, and how it is kept.
use Rattle.std.proofs.Common.{◌≡◌, ℕ, ◌+◌, ◌-◌, ◌^◌, ◌<◌, ◌≤◌, ◌⊎◌, true, false, List, ◌++◌, length, take, drop, get_or, Option, Some, None, IsSome, IsNone, MatchOption, refl, sym, ◌∙◌, subst, length-append, inl, inr, arith}
use Rattle.std.specs.Int.{w32, from_be_bytes}
use Rattle.std.proofs.lemmas.Bool.{cases_lt}
use Rattle.std.proofs.lemmas.List.{get_or_append_left, drop-append-le, length-drop}
use Rattle.std.proofs.lemmas.Slice.{between_to_end}
use Rattle.pon_units.specs.declared.limits.TheConstants.{MAX_STRUCTURES}
use Rattle.pon_hec.specs.HeaderCode.{Reads}
use Rattle.pon_xgtc.specs.HLend.{HLend, hlend_payload, ReadsHLend}
use Rattle.pon_bwmap.proofs.OneMap.{one_head}
use Rattle.pon_link.specs.UpRecords.{count_in}
use Rattle.pon_lists.specs.Bytes.{AreBytes}
use Rattle.pon_lists.proofs.Bytes.{bytes-drop}
use Rattle.pon_link.specs.Reading.{Announces, AnnouncesMap, HasBadSize, KeepsForm, MayBecomeRecord, IsWholeRecord, IsWithinRecord, tag_of, header_len, longest}
use Rattle.pon_link.specs.declared.direction.Direction.{Direction}
use Rattle.pon_link.specs.declared.direction.Direction.TheVariants.{Up, Down}

-- the bytes of a map give at most one size
pub one_map_size : (map : List ℕ) (n m : ℕ) → AreBytes map → AnnouncesMap map n → AnnouncesMap map m → n ≡ m
one_map_size map n m small a b =
    let same = one_head map a.0 b.0 a.1 b.1 small a.2 b.2 in
    omega (arith, same.0, a.5, b.5)

-- bytes give at most one size
pub one_size : (d : Direction) (bytes : List ℕ) (n m : ℕ) → AreBytes bytes → Announces d bytes n → Announces d bytes m → n ≡ m
one_size Up bytes n m small a b = a.2 ∙ sym b.2
one_size Down bytes n m small a b = one_map_size (drop 9 bytes) n m (bytes-drop 9 bytes small) a b

-- bytes after those that give a size do not change it
word_kept : (b more : List ℕ) → 4 ≤ length b → from_be_bytes w32 (b ++ more) ≡ from_be_bytes w32 b
word_kept b more long =
    let e0 : get_or (b ++ more) 0 0 ≡ get_or b 0 0 = get_or_append_left b more 0 0 (omega (arith, long)) in
    let e1 : get_or (b ++ more) 1 0 ≡ get_or b 1 0 = get_or_append_left b more 0 1 (omega (arith, long)) in
    let e2 : get_or (b ++ more) 2 0 ≡ get_or b 2 0 = get_or_append_left b more 0 2 (omega (arith, long)) in
    let e3 : get_or (b ++ more) 3 0 ≡ get_or b 3 0 = get_or_append_left b more 0 3 (omega (arith, long)) in
    omega (arith, e0, e1, e2, e3)

map_size_kept : (map more : List ℕ) (n : ℕ) → 4 ≤ length map → AnnouncesMap map n → AnnouncesMap (map ++ more) n
map_size_kept map more n long a = (
  a.0,
  a.1,
  record {
    fits = a.2.fits;
    header = record {
      whole = omega (arith, long, length-append map more);
      word = subst (λ (w : ℕ). Reads (2 ^ 32) w (hlend_payload a.0) a.1) (sym (word_kept map more long)) a.2.header.word;
    };
  },
  a.3,
  a.4,
  a.5,
)

map_size_before : (map more : List ℕ) (n : ℕ) → 4 ≤ length map → AnnouncesMap (map ++ more) n → AnnouncesMap map n
map_size_before map more n long a = (
  a.0,
  a.1,
  record {
    fits = a.2.fits;
    header = record {
      whole = long;
      word = subst (λ (w : ℕ). Reads (2 ^ 32) w (hlend_payload a.0) a.1) (word_kept map more long) a.2.header.word;
    };
  },
  a.3,
  a.4,
  a.5,
)

pub size_before : (d : Direction) (bytes more : List ℕ) (n : ℕ) → header_len d ≤ length bytes → Announces d (bytes ++ more) n → Announces d bytes n
size_before Up bytes more n long a =
    let count : count_in (bytes ++ more) ≡ count_in bytes = get_or_append_left bytes more 0 13 (omega (arith, long)) in
    (omega (arith, count, a.0), omega (arith, count, a.1), omega (arith, count, a.2))
size_before Down bytes more n long a =
    map_size_before (drop 9 bytes) more n (omega (arith, long, length-drop 9 bytes)) (subst (λ (t : List ℕ). AnnouncesMap t n) (drop-append-le 9 bytes more (omega (arith, long))) a)

pub size_kept : (d : Direction) (bytes more : List ℕ) (n : ℕ) → header_len d ≤ length bytes → Announces d bytes n → Announces d (bytes ++ more) n
size_kept Up bytes more n long a =
    let count : count_in (bytes ++ more) ≡ count_in bytes = get_or_append_left bytes more 0 13 (omega (arith, long)) in
    (omega (arith, count, a.0), omega (arith, count, a.1), omega (arith, count, a.2))
size_kept Down bytes more n long a =
    subst (λ (t : List ℕ). AnnouncesMap t n) (sym (drop-append-le 9 bytes more (omega (arith, long)))) (map_size_kept (drop 9 bytes) more n (omega (arith, long, length-drop 9 bytes)) a)

-- a bad size is not a size
pub no_size : (d : Direction) (bytes : List ℕ) (n : ℕ) → HasBadSize d bytes → Announces d bytes n → ⊥
no_size Up bytes n bad a = elim bad [ inl none ↦ omega (arith, none, a.0) | inr more ↦ omega (arith, more, a.1) ]
no_size Down bytes n bad a = bad n a

-- no record is longer than the maximum
pub size_limit : (d : Direction) (bytes : List ℕ) (n : ℕ) → Announces d bytes n → n ≤ longest d
size_limit Up bytes n a = omega (arith, a.1, a.2)
size_limit Down bytes n a = omega (arith, a.3, a.5)

told_least : (d : Direction) (bytes : List ℕ) (n : ℕ) → Announces d bytes n → header_len d ≤ n
told_least Up bytes n a = omega (arith, a.2)
told_least Down bytes n a = omega (arith, a.5)

pub told_early : (d : Direction) → header_len d ≤ longest d
told_early Up = omega arith
told_early Down = omega arith

pub some_told : (d : Direction) → 0 < header_len d
some_told Up = omega arith
some_told Down = omega arith

-- bytes within a record are at most as long as the longest record
pub within_limit : (d : Direction) (bytes : List ℕ) → IsWithinRecord d bytes → length bytes ≤ longest d
within_limit d bytes w = elim (cases_lt (header_len d) (length bytes)) [
  | inl lt ↦ let size = w.size lt in omega (arith, size.2, size_limit d bytes size.0 size.1)
  | inr ge ↦ omega (arith, ge, told_early d)
]

-- a proper prefix of a record is shorter than the longest record
pub begun_limit : (d : Direction) (bytes : List ℕ) → MayBecomeRecord d bytes → length bytes < longest d
begun_limit d bytes b = elim (cases_lt (length bytes) (header_len d)) [
  | inl lt ↦ omega (arith, lt, told_early d)
  | inr ge ↦ let more = b.more ge in omega (arith, more.2, size_limit d bytes more.0 more.1)
]

-- the form is kept if bytes are appended to those that give the size
form_kept : (d : Direction) (bytes more : List ℕ) → header_len d ≤ length bytes → KeepsForm d bytes → KeepsForm d (bytes ++ more)
form_kept d bytes more long form =
    let some : 0 < length bytes = omega (arith, long, some_told d) in
    let size = form.size long in
    record {
      tag = λ _. get_or_append_left bytes more 0 0 some ∙ form.tag some;
      size = λ _. (size.0, size_kept d bytes more size.0 long size.1);
    }

-- the bytes that a record still needs at least do not go past it
pub within_more : (d : Direction) (held piece : List ℕ) (needed : ℕ) → MayBecomeRecord d held → (length held < header_len d → length held + needed ≡ header_len d) → (header_len d ≤ length held → Announces d held (length held + needed)) → length piece ≤ needed → IsWithinRecord d (held ++ piece)
within_more d held piece needed b untold told le =
    let size : length (held ++ piece) ≡ length held + length piece = length-append held piece in
    elim (cases_lt (length held) (header_len d)) [
      | inl lt ↦ record {
        form = λ past. absurd (omega (arith, past, size, untold lt, le));
        size = λ past. absurd (omega (arith, past, size, untold lt, le));
      }
      | inr ge ↦ record {
        form = λ _. form_kept d held piece ge b.form;
        size = λ _. (length held + needed, size_kept d held piece (length held + needed) ge (told ge), omega (arith, size, le));
      }
    ]

-- a proper prefix of a record needs more bytes than it has
pub more_needed : (d : Direction) (bytes : List ℕ) (n : ℕ) → AreBytes bytes → header_len d ≤ length bytes → Announces d bytes n → MayBecomeRecord d bytes → length bytes < n
more_needed d bytes n small ge a b = let more = b.more ge in omega (arith, more.2, one_size d bytes n more.0 small a more.1)

-- bytes within a record are at most as many as they give
pub told_enough : (d : Direction) (bytes : List ℕ) (n : ℕ) → AreBytes bytes → header_len d ≤ length bytes → Announces d bytes n → IsWithinRecord d bytes → length bytes ≤ n
told_enough d bytes n small ge a w = elim (cases_lt (header_len d) (length bytes)) [
  | inl lt ↦ let size = w.size lt in omega (arith, size.2, one_size d bytes n size.0 small a size.1)
  | inr le ↦ omega (arith, ge, le, told_least d bytes n a)
]

-- a size that the bytes give is found
pub some_size : (r : Option ℕ) (d : Direction) (bytes : List ℕ) (n : ℕ) → Announces d bytes n → MatchOption r (HasBadSize d bytes) (Announces d bytes) → IsSome r
some_size None d bytes n a m = absurd (no_size d bytes n m a)
some_size (Some k) d bytes n a m = refl

-- if no size is found, the bytes are not a prefix of a record
pub none_begun : (r : Option ℕ) (d : Direction) (bytes : List ℕ) → header_len d ≤ length bytes → IsNone r → MatchOption r (HasBadSize d bytes) (Announces d bytes) → MayBecomeRecord d bytes → ⊥
none_begun None d bytes ge none m b = let size = b.form.size ge in no_size d bytes size.0 m size.1
none_begun (Some k) d bytes ge none m b = let both : true ≡ false = none in cc

-- the size of a map, for the direction
pub down_told : (d : Direction) (bytes : List ℕ) (r : Option ℕ) → d ≡ Down → MatchOption r ((n : ℕ) → AnnouncesMap (take (length bytes - 9) (drop 9 bytes)) n → ⊥) (AnnouncesMap (take (length bytes - 9) (drop 9 bytes))) → MatchOption r (HasBadSize d bytes) (Announces d bytes)
down_told d bytes r down m =
    let rest : take (length bytes - 9) (drop 9 bytes) ≡ drop 9 bytes = between_to_end bytes 9 (length bytes) (omega arith) in
    subst (λ (e : Direction). MatchOption r (HasBadSize e bytes) (Announces e bytes)) (sym down)
    (subst (λ (t : List ℕ). MatchOption r ((n : ℕ) → AnnouncesMap t n → ⊥) (AnnouncesMap t)) rest m)

-- a head that announces too much gives no size
pub big_head : (map : List ℕ) (h : HLend) (k n : ℕ) → AreBytes map → ReadsHLend map h k → (MAX_STRUCTURES < h.n) ⊎ (0 < h.p) → AnnouncesMap map n → ⊥
big_head map h k n small r big a =
    let same = one_head map h a.0 k a.1 small r a.2 in
    elim big [ inl rows ↦ omega (arith, rows, same.0, a.3) | inr messages ↦ omega (arith, messages, same.1, a.4) ]

-- a reader that needs no more bytes holds a whole record
pub whole_now : (d e : Direction) (held bytes : List ℕ) (n : ℕ) → e ≡ d → bytes ≡ held → KeepsForm d held → (length bytes < header_len e → length bytes + n ≡ header_len e) → (header_len e ≤ length bytes → Announces e bytes (length bytes + n)) → n ≡ 0 → IsWholeRecord d held
whole_now d e held bytes n same is form untold told none =
    let ge : header_len e ≤ length bytes = elim (cases_lt (length bytes) (header_len e)) [ inl lt ↦ omega (arith, none, lt, untold lt) | inr ge ↦ ge ] in
    let whole : length bytes + n ≡ length bytes = omega (arith, none) in
    let size : Announces e bytes (length bytes) = subst (λ (k : ℕ). Announces e bytes k) whole (told ge) in
    record {
      form = form;
      told = subst (λ (c : Direction). header_len c ≤ length held) same (subst (λ (t : List ℕ). header_len e ≤ length t) is ge);
      size = subst (λ (c : Direction). Announces c held (length held)) same (subst (λ (t : List ℕ). Announces e t (length t)) is size);
    }

-- fewer bytes than a record still needs at least leave it a proper prefix
pub begins_more : (d : Direction) (held more : List ℕ) (needed : ℕ) → 0 < length held → MayBecomeRecord d held → (length held < header_len d → length held + needed ≡ header_len d) → (header_len d ≤ length held → Announces d held (length held + needed)) → length more < needed → MayBecomeRecord d (held ++ more)
begins_more d held more needed some b untold told lt =
    let size : length (held ++ more) ≡ length held + length more = length-append held more in
    let tag : get_or (held ++ more) 0 0 ≡ tag_of d = get_or_append_left held more 0 0 some ∙ b.form.tag some in
    elim (cases_lt (length held) (header_len d)) [
      | inl less ↦ record {
        form = record { tag = λ _. tag; size = λ past. absurd (omega (arith, past, size, untold less, lt)) };
        more = λ past. absurd (omega (arith, past, size, untold less, lt));
      }
      | inr ge ↦
          let all = length held + needed in
          let grown : Announces d (held ++ more) all = size_kept d held more all ge (told ge) in
          record {
            form = record { tag = λ _. tag; size = λ _. (all, grown) };
            more = λ _. (all, grown, omega (arith, size, lt));
          }
    ]
