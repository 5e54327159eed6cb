-- A chapter of version one in version two: rule one, and carries of 0.
use Rattle.std.proofs.Common.{◌≡◌, ℕ, suc, ◌+◌, ◌*◌, ◌<◌, ◌≤◌, ◌^◌, List, [], ◌∷◌, ◌++◌, length, get_or, take, drop, refl, sym, ap, subst, ◌∙◌, append_assoc, arith}
use Rattle.std.proofs.Math.Seq.{drop-cons, take-suc}
use Rattle.std.specs.Int.{w8, w16, w32, w64, to_be_bytes}
use Rattle.std.specs.Prelude.{All}
use Rattle.std.specs.List.{AllByRecursion, flat_map}
use Rattle.std.proofs.lemmas.List.Elements.{All-from_recursion}
use Rattle.std.proofs.lemmas.Bool.{le-leb}
use Rattle.std.proofs.lemmas.List.{drop_at, flat_map_more, length-append, take_at}
use Rattle.std.proofs.lemmas.List.Concat.{flat_map-cons}
use Rattle.pon_admit.specs.Roster.{max_carry}
use Rattle.pon_admit.specs.declared.rule.Rule.{Rule}
use Rattle.pon_admit.specs.declared.rule.Rule.TheVariants as rule
use Rattle.pon_guar.specs.declared.window.TheConstants.{MAX_MAPS}
use Rattle.pon_state.specs.declared.checks.TheConstants.{MAX_ENTRIES}
use Rattle.pon_record.specs.declared.limits.TheConstants.{CHAPTER_TAG}
use Rattle.pon_record.specs.declared.row.RawRow.{RawRow}
use Rattle.pon_record.specs.declared.version.Version.{Version}
use Rattle.pon_record.specs.declared.version.Version.TheVariants as version
use Rattle.pon_record.specs.Format.{counted, number}
use Rattle.pon_record.specs.Fields.{carry_in, failure, gap, profile, rule_in}
use Rattle.pon_record.specs.Openings.{Opening, opening_in, row_in, window_map_under}
use Rattle.pon_record.specs.Chapters.{Body, FitsChapter, body_in, body_under, chapter_bytes, entry, port}
use Rattle.pon_record.proofs.Sizes.{body_fits_length}

-- ---- what fits version one fits version two

no_carry : (r : Rule) (n : ℕ) → n ≡ 0 → (carry_in version.Two r).Fits n
no_carry r n e = subst (carry_in version.Two r).Fits (sym e) (omega arith, rw (le-leb 0 (max_carry r) (omega arith)) refl)

row_fits_two : (r : Rule) (x : RawRow) → (row_in version.One r).Fits x → (row_in version.Two r).Fits x
row_fits_two r x fits = let f = fits.0 in ((f.0, (f.1.0, (f.1.1.0, (f.1.1.1.0, (f.1.1.1.1.0, no_carry r x.carry f.1.1.1.1.1))))), fits.1)

rows_fit_two : (r : Rule) (rows : List RawRow) → AllByRecursion (row_in version.One r).Fits rows → AllByRecursion (row_in version.Two r).Fits rows
rows_fit_two r [] fits = tt
rows_fit_two r (x ∷ rows) fits = (row_fits_two r x fits.0, rows_fit_two r rows fits.1)

opening_fits_two : (r : Rule) (o : Opening) → (opening_in version.One r).Fits o → (opening_in version.Two r).Fits o
opening_fits_two r o fits =
    let f = fits.0 in
    let rows = f.1.1.1.1.1.0 in
    ((f.0, (f.1.0, (f.1.1.0, (f.1.1.1.0, (f.1.1.1.1.0, ((rows.0, rows.1, rows_fit_two r o.rows rows.2), f.1.1.1.1.1.1)))))), fits.1)

pub body_fits_two : (b : Body) → (body_in version.One).Fits b → (body_in version.Two).Fits b
body_fits_two b fits =
    let f = fits.0.1 in
    let one : (rule_in version.Two).Fits b.opening.rule = subst (rule_in version.Two).Fits (sym fits.0.0) (omega arith, refl) in
    ((one, (f.0, (f.1.0, (opening_fits_two b.opening.rule b.opening f.1.1.0, f.1.1.1)))), fits.1)

pub fits_two : (b : Body) → FitsChapter version.One b → FitsChapter version.Two b
fits_two b fits =
    let body = body_fits_two b fits.1.0 in
    (fits.0, (body, body_fits_length version.Two b body))

pub all_fit_two : (bs : List Body) → AllByRecursion (FitsChapter version.One) bs → AllByRecursion (FitsChapter version.Two) bs
all_fit_two [] fits = tt
all_fit_two (b ∷ bs) fits = (fits_two b fits.0, all_fit_two bs fits.1)

-- ---- the bytes of a body around its rows

abbrev pub front : Body → List ℕ
front b = let o = b.opening in
    port.write b.port ++ to_be_bytes w64 b.number ++ gap.write o.gap ++ profile.write o.profile ++ failure.write o.cause
    ++ to_be_bytes w64 o.next ++ to_be_bytes w64 o.taken_before ++ to_be_bytes w16 (length o.rows)

abbrev pub back : Body → List ℕ
back b = (counted (number w8) MAX_MAPS (window_map_under rule.DropRemainders)).write b.opening.window ++ (counted (number w32) MAX_ENTRIES entry).write b.entries

abbrev pub rows_in : Version → List RawRow → List ℕ
rows_in v rows = flat_map (row_in v rule.DropRemainders).write rows

pub front_size : (b : Body) → length (front b) ≡ 31
front_size b = omega arith

pub body_one : (b : Body) → (body_in version.One).write b ≡ front b ++ (rows_in version.One b.opening.rows ++ back b)
body_one b = ap (λ (l : List ℕ). front b ++ l)
    (append_assoc (rows_in version.One b.opening.rows) ((counted (number w8) MAX_MAPS (window_map_under rule.DropRemainders)).write b.opening.window) ((counted (number w32) MAX_ENTRIES entry).write b.entries))

-- ---- a row more

-- a row of version two is one of version one, and its carry
moved_row : (x : RawRow) → x.carry ≡ 0 → (row_in version.Two rule.DropRemainders).write x ≡ (row_in version.One rule.DropRemainders).write x ++ x.carry ∷ []
moved_row x none =
    let with_carry = λ (n : ℕ). let y : RawRow = record { onu = x.onu; alloc_id = x.alloc_id; descriptor = x.descriptor; since = x.since; counted = x.counted; carry = n } in y in
    subst (λ (n : ℕ). (row_in version.Two rule.DropRemainders).write (with_carry n) ≡ (row_in version.One rule.DropRemainders).write (with_carry n) ++ n ∷ []) (sym none) refl

-- the row at a place begins the bytes of the rows from there on
rows_from : (rows : List RawRow) (i : ℕ) (x : RawRow) (rest : List ℕ) → i < length rows → x ≡ get_or rows i x → rest ≡ rows_in version.One (drop i rows)
    → rest ≡ (row_in version.One rule.DropRemainders).write x ++ rows_in version.One (drop (i + 1) rows)
rows_from rows i x rest lt at is =
    let next : suc i ≡ i + 1 = omega arith in
    is ∙ ap (rows_in version.One) (drop-cons rows i x lt) ∙ (λ k. rows_in version.One (sym at k ∷ drop (next k) rows))
    ∙ flat_map-cons (row_in version.One rule.DropRemainders).write x (drop (i + 1) rows)

pub row_length : (rows : List RawRow) (i : ℕ) (x : RawRow) (rest : List ℕ) → i < length rows → x ≡ get_or rows i x → rest ≡ rows_in version.One (drop i rows) → 38 ≤ length rest
row_length rows i x rest lt at is = omega (arith, ap (λ (l : List ℕ). length l) (rows_from rows i x rest lt at is))

pub rows_left : (rows : List RawRow) (i : ℕ) (x : RawRow) (rest : List ℕ) → i < length rows → x ≡ get_or rows i x → rest ≡ rows_in version.One (drop i rows) → drop 38 rest ≡ rows_in version.One (drop (i + 1) rows)
rows_left rows i x rest lt at is =
    ap (λ (l : List ℕ). drop 38 l) (rows_from rows i x rest lt at is) ∙ drop_at ((row_in version.One rule.DropRemainders).write x) (rows_in version.One (drop (i + 1) rows)) 38 refl

pub row_put : (old out new rest : List ℕ) (rows : List RawRow) (i : ℕ) (x : RawRow) → i < length rows → x ≡ get_or rows i x → x.carry ≡ 0 → rest ≡ rows_in version.One (drop i rows) → out ≡ old ++ rows_in version.Two (take i rows)
    → new ≡ (out ++ take 38 rest) ++ x.carry ∷ [] → new ≡ old ++ rows_in version.Two (take (i + 1) rows)
row_put old out new rest rows i x lt at none is before after =
    let write = (row_in version.One rule.DropRemainders).write x in
    let next : suc i ≡ i + 1 = omega arith in
    let fields : take 38 rest ≡ write = ap (λ (l : List ℕ). take 38 l) (rows_from rows i x rest lt at is) ∙ take_at write (rows_in version.One (drop (i + 1) rows)) 38 refl in
    after
    ∙ ap (λ (l : List ℕ). (out ++ l) ++ x.carry ∷ []) fields
    ∙ append_assoc out write (x.carry ∷ [])
    ∙ ap (λ (l : List ℕ). out ++ l) (sym (moved_row x none))
    ∙ ap (λ (l : List ℕ). l ++ (row_in version.Two rule.DropRemainders).write x) before
    ∙ flat_map_more (row_in version.Two rule.DropRemainders).write old (take i rows) x
    ∙ ap (λ (l : List RawRow). old ++ rows_in version.Two l) ((λ k. take i rows ++ at k ∷ []) ∙ sym (take-suc rows i x lt) ∙ ap (λ (n : ℕ). take n rows) next)

-- ---- a body, and a chapter

pub rule_is_one : (b : Body) → FitsChapter version.One b → b.opening.rule ≡ rule.DropRemainders
rule_is_one b fits = fits.1.0.0.0

none_carried : (r : Rule) (rows : List RawRow) → AllByRecursion (row_in version.One r).Fits rows → AllByRecursion (λ (x : RawRow). x.carry ≡ 0) rows
none_carried r [] fits = tt
none_carried r (x ∷ rows) fits = (fits.0.0.1.1.1.1.1, none_carried r rows fits.1)

pub no_carries : (b : Body) → FitsChapter version.One b → All (λ (x : RawRow). x.carry ≡ 0) b.opening.rows
no_carries b fits = All-from_recursion (λ (x : RawRow). x.carry ≡ 0) b.opening.rows (none_carried b.opening.rule b.opening.rows fits.1.0.0.1.1.1.0.0.1.1.1.1.1.0.2)

rows_size : (rows : List RawRow) → length (rows_in version.One rows) ≡ 38 * length rows
rows_size [] = refl
rows_size (x ∷ rows) = ap (λ (l : List ℕ). length l) (flat_map-cons (row_in version.One rule.DropRemainders).write x rows) ∙ omega (arith, rows_size rows)

pub body_two : (b : Body) → b.opening.rule ≡ rule.DropRemainders → (body_in version.Two).write b ≡ 1 ∷ (front b ++ (rows_in version.Two b.opening.rows ++ back b))
body_two b one =
    let with_rule = λ (r : Rule). (rule_in version.Two).write r ++ (body_under version.Two rule.DropRemainders).write (b.port, (b.number, (b.opening, b.entries))) in
    ap with_rule one
    ∙ ap (λ (l : List ℕ). 1 ∷ (front b ++ l))
    (append_assoc (rows_in version.Two b.opening.rows) ((counted (number w8) MAX_MAPS (window_map_under rule.DropRemainders)).write b.opening.window) ((counted (number w32) MAX_ENTRIES entry).write b.entries))

-- the parts of a body of version one
pub record AreParts (b : Body) (body : List ℕ) : Type 0 where
  pub long : 31 ≤ length body
  pub front : take 31 body ≡ front b
  pub most : 38 * length b.opening.rows ≤ length (drop 31 body)
  pub rows : take (38 * length b.opening.rows) (drop 31 body) ≡ rows_in version.One b.opening.rows
  pub back : drop (38 * length b.opening.rows) (drop 31 body) ≡ back b

pub parts_of : (b : Body) (body : List ℕ) → body ≡ (body_in version.One).write b → AreParts b body
parts_of b body is =
    let rows = rows_in version.One b.opening.rows in
    let whole : body ≡ front b ++ (rows ++ back b) = is ∙ body_one b in
    let rest : drop 31 body ≡ rows ++ back b = ap (λ (l : List ℕ). drop 31 l) whole ∙ drop_at (front b) (rows ++ back b) 31 (front_size b) in
    record {
      long = omega (arith, ap (λ (l : List ℕ). length l) whole, length-append (front b) (rows ++ back b), front_size b);
      front = ap (λ (l : List ℕ). take 31 l) whole ∙ take_at (front b) (rows ++ back b) 31 (front_size b);
      most = omega (arith, ap (λ (l : List ℕ). length l) rest, length-append rows (back b), rows_size b.opening.rows);
      rows = ap (λ (l : List ℕ). take (38 * length b.opening.rows) l) rest ∙ take_at rows (back b) (38 * length b.opening.rows) (rows_size b.opening.rows);
      back = ap (λ (l : List ℕ). drop (38 * length b.opening.rows) l) rest ∙ drop_at rows (back b) (38 * length b.opening.rows) (rows_size b.opening.rows);
    }

pub rows_fields : (b : Body) (rows : List RawRow) (bytes rest fields : List ℕ) → bytes ≡ (body_in version.One).write b → rows ≡ b.opening.rows → rest ≡ drop 31 bytes → fields ≡ take (38 * length rows) rest → fields ≡ rows_in version.One rows
rows_fields b rows bytes rest fields is same after e =
    e ∙ (λ i. take (38 * length (same i)) (after i)) ∙ (parts_of b bytes is).rows ∙ ap (rows_in version.One) (sym same)

pub body_put : (b : Body) (rows : List RawRow) (bytes rest part old out1 out2 out3 out4 : List ℕ) → FitsChapter version.One b → bytes ≡ (body_in version.One).write b → rows ≡ b.opening.rows → rest ≡ drop 31 bytes → part ≡ drop (38 * length rows) rest
    → out1 ≡ old ++ 1 ∷ [] → out2 ≡ out1 ++ take 31 bytes → out3 ≡ out2 ++ rows_in version.Two rows → out4 ≡ out3 ++ part → out4 ≡ old ++ (body_in version.Two).write b
body_put b rows bytes rest part old out1 out2 out3 out4 fits is same after last e1 e2 e3 e4 =
    let p = parts_of b bytes is in
    let moved = rows_in version.Two b.opening.rows in
    let ends : part ≡ back b = last ∙ (λ i. drop (38 * length (same i)) (after i)) ∙ p.back in
    e4 ∙ ap (λ (l : List ℕ). l ++ part) (e3 ∙ ap (λ (l : List ℕ). l ++ rows_in version.Two rows) (e2 ∙ ap (λ (l : List ℕ). l ++ take 31 bytes) e1))
    ∙ (λ i. (((old ++ 1 ∷ []) ++ p.front i) ++ rows_in version.Two (same i)) ++ ends i)
    ∙ append_assoc ((old ++ 1 ∷ []) ++ front b) moved (back b)
    ∙ append_assoc (old ++ 1 ∷ []) (front b) (moved ++ back b)
    ∙ append_assoc old (1 ∷ []) (front b ++ (moved ++ back b))
    ∙ ap (λ (l : List ℕ). old ++ l) (sym (body_two b (rule_is_one b fits)))

-- the number of bytes of a body of version two
size_two : (b : Body) → b.opening.rule ≡ rule.DropRemainders → length ((body_in version.Two).write b) ≡ length ((body_in version.One).write b) + length b.opening.rows + 1
size_two b one =
    let ones = rows_in version.One b.opening.rows in
    let twos = rows_in version.Two b.opening.rows in
    omega (
      arith,
      ap (λ (l : List ℕ). length l) (body_one b),
      ap (λ (l : List ℕ). length l) (body_two b one),
      length-append (front b) (ones ++ back b),
      length-append (front b) (twos ++ back b),
      length-append ones (back b),
      length-append twos (back b),
      rows_size b.opening.rows,
      moved_size b.opening.rows,
    )
  where
    moved_size : (rows : List RawRow) → length (rows_in version.Two rows) ≡ 39 * length rows
    moved_size [] = refl
    moved_size (x ∷ rows) = ap (λ (l : List ℕ). length l) (flat_map-cons (row_in version.Two rule.DropRemainders).write x rows) ∙ omega (arith, moved_size rows)

-- the head of a chapter of version two, and its body
pub record IsHead (b : Body) (size : ℕ) : Type 0 where
  pub small : size < 2 ^ 32
  pub is : size ≡ length ((body_in version.Two).write b)

pub head_of : (b : Body) (bytes body : List ℕ) (rows : List RawRow) (size : ℕ) → FitsChapter version.One b → bytes ≡ chapter_bytes version.One b → body ≡ drop 5 bytes → rows ≡ b.opening.rows → size ≡ length body + length rows + 1 → IsHead b size
head_of b bytes body rows size fits is after same e =
    let text : body ≡ (body_in version.One).write b = after ∙ ap (λ (l : List ℕ). drop 5 l) is in
    let all : size ≡ length ((body_in version.Two).write b) = omega (arith, e, ap (λ (l : List ℕ). length l) text, ap (λ (l : List RawRow). length l) same, size_two b (rule_is_one b fits)) in
    record { small = omega (arith, all, body_fits_length version.Two b (body_fits_two b fits.1.0)); is = all }

pub chapter_put : (b : Body) (size : ℕ) (old out1 out2 : List ℕ) → IsHead b size → out1 ≡ old ++ CHAPTER_TAG ∷ to_be_bytes w32 size → out2 ≡ out1 ++ (body_in version.Two).write b → out2 ≡ old ++ chapter_bytes version.Two b
chapter_put b size old out1 out2 head e1 e2 =
    let body = (body_in version.Two).write b in
    e2 ∙ ap (λ (l : List ℕ). l ++ body) (e1 ∙ ap (λ (n : ℕ). old ++ CHAPTER_TAG ∷ to_be_bytes w32 n) head.is)
    ∙ append_assoc old (CHAPTER_TAG ∷ to_be_bytes w32 (length body)) body
