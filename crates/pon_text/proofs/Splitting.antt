-- The splitting of a text into words.
use Rattle.std.proofs.Common.{◌≡◌, ℕ, suc, ◌<◌, Bool, true, false, not, List, [], ◌∷◌, length, take, drop, refl, ap, sym, subst, ◌∙◌, arith}
use Rattle.std.specs.List.{position_or_len}
use Rattle.pon_text.specs.Lines.{words_of, is_blank, onto}

-- the end of a word, and the end of blanks
abbrev pub word_end : List ℕ → ℕ
word_end t = position_or_len is_blank t

abbrev pub blanks_end : List ℕ → ℕ
blanks_end t = position_or_len (λ b. not (is_blank b)) t

-- u begins with the first word of t
abbrev BeginsWithFirst : List ℕ → List ℕ → Type 0
BeginsWithFirst t u = words_of t ≡ take (word_end u) u ∷ words_of (drop (word_end u) u)

word_end-more : (b : ℕ) (bs : List ℕ) → is_blank b ≡ false → word_end (b ∷ bs) ≡ suc (word_end bs)
word_end-more b bs h = rw h (omega arith)

one_byte : (b c : ℕ) (cs : List ℕ) → is_blank b ≡ false → (v : Bool) → is_blank c ≡ v →
    (v ≡ false → BeginsWithFirst (c ∷ cs) (c ∷ cs)) → BeginsWithFirst (b ∷ c ∷ cs) (b ∷ c ∷ cs)
one_byte b c cs h true k more = rw (h, k) (rw k refl)
one_byte b c cs h false k more =
    let joined : words_of (b ∷ c ∷ cs) ≡ onto b (words_of (c ∷ cs)) = rw (h, k) refl in
    joined ∙ ap (onto b) (more refl)
    ∙ ap (λ m. take m (b ∷ c ∷ cs) ∷ words_of (drop m (b ∷ c ∷ cs))) (sym (word_end-more b (c ∷ cs) h))

words_of-word : (b : ℕ) (bs : List ℕ) → is_blank b ≡ false → BeginsWithFirst (b ∷ bs) (b ∷ bs)
words_of-word b [] h = rw h refl
words_of-word b (c ∷ cs) h = one_byte b c cs h (is_blank c) refl (words_of-word c cs)

blanks_end-more : (b : ℕ) (bs : List ℕ) → is_blank b ≡ true → blanks_end (b ∷ bs) ≡ suc (blanks_end bs)
blanks_end-more b bs h = rw h (omega arith)

blanks_end-none : (b : ℕ) (bs : List ℕ) → is_blank b ≡ false → blanks_end (b ∷ bs) ≡ 0
blanks_end-none b bs h = rw h refl

no_blank : (b : ℕ) (bs : List ℕ) → words_of bs ≡ words_of (drop (blanks_end bs) bs) →
    (v : Bool) → is_blank b ≡ v → words_of (b ∷ bs) ≡ words_of (drop (blanks_end (b ∷ bs)) (b ∷ bs))
no_blank b bs more true h =
    let skipped : words_of (b ∷ bs) ≡ words_of bs = rw h refl in
    skipped ∙ more ∙ ap (λ m. words_of (drop m (b ∷ bs))) (sym (blanks_end-more b bs h))
no_blank b bs more false h = ap (λ m. words_of (drop m (b ∷ bs))) (sym (blanks_end-none b bs h))

-- a text without its leading blanks has the same words
pub words_of-blanks : (t : List ℕ) → words_of t ≡ words_of (drop (blanks_end t) t)
words_of-blanks [] = refl
words_of-blanks (b ∷ bs) = no_blank b bs (words_of-blanks bs) (is_blank b) refl

one_more : (b : ℕ) (bs : List ℕ) → (0 < length (drop (blanks_end bs) bs) → BeginsWithFirst bs (drop (blanks_end bs) bs)) →
    (v : Bool) → is_blank b ≡ v → 0 < length (drop (blanks_end (b ∷ bs)) (b ∷ bs)) → BeginsWithFirst (b ∷ bs) (drop (blanks_end (b ∷ bs)) (b ∷ bs))
one_more b bs more true h l =
    let skipped : words_of (b ∷ bs) ≡ words_of bs = rw h refl in
    let same : drop (blanks_end bs) bs ≡ drop (blanks_end (b ∷ bs)) (b ∷ bs) = ap (λ m. drop m (b ∷ bs)) (sym (blanks_end-more b bs h)) in
    skipped ∙ subst (λ u. BeginsWithFirst bs u) same (more (omega (arith, ap length same, l)))
one_more b bs more false h l = subst (λ m. BeginsWithFirst (b ∷ bs) (drop m (b ∷ bs))) (sym (blanks_end-none b bs h)) (words_of-word b bs h)

-- without its leading blanks it begins with its first word
pub words_of-first : (t : List ℕ) → 0 < length (drop (blanks_end t) t) → BeginsWithFirst t (drop (blanks_end t) t)
words_of-first [] l = absurd (omega arith)
words_of-first (b ∷ bs) l = one_more b bs (words_of-first bs) (is_blank b) refl l

-- nothing is left after the leading blanks
pub words_of-none : (t u : List ℕ) (m : ℕ) → m ≡ blanks_end t → u ≡ drop m t → length u ≡ 0 → words_of t ≡ []
words_of-none t [] m at_end e l = words_of-blanks t ∙ ap (λ n. words_of (drop n t)) (sym at_end) ∙ ap words_of (sym e)
words_of-none t (b ∷ u) m at_end e l = absurd (omega arith)

-- otherwise the rest is the first word and what follows it
pub words_of-some : (t u word rest : List ℕ) (m n : ℕ) → m ≡ blanks_end t → u ≡ drop m t → 0 < length u →
    n ≡ word_end u → word ≡ take n u → rest ≡ drop n u → words_of t ≡ word ∷ words_of rest
words_of-some t u word rest m n starts e l ends front back =
    let same : drop (blanks_end t) t ≡ u = ap (λ k. drop k t) (sym starts) ∙ sym e in
    let first : BeginsWithFirst t u = subst (λ v. BeginsWithFirst t v) same (words_of-first t (omega (arith, ap length same, l))) in
    first ∙ ap (λ k. take k u ∷ words_of (drop k u)) (sym ends) ∙ ap (λ w. w ∷ words_of (drop n u)) (sym front) ∙ ap (λ r. word ∷ words_of r) (sym back)
