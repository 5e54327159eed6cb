-- Receipts that a seat is given one after another, and the reports of records.
use Rattle.std.proofs.Common.{◌≡◌, ℕ, true, List, [], ◌∷◌, ◌++◌, inl, inr, Option, Some, None, refl, sym, subst, ap, ◌∙◌, arith, append_assoc, append-nil, length-append}
use Rattle.pon_descr.specs.declared.refusal.Refusal.{Refusal}
use Rattle.pon_desk.specs.Counts.{SeatState}
use Rattle.pon_lists.specs.Kept.{AddsTo}
use Rattle.pon_desk.specs.Receipts.{Receipt}
use Rattle.pon_link.specs.declared.record.UpRecord.{UpRecord}
use Rattle.pon_worker.specs.Records.{is_garbled}
use Rattle.pon_worker.specs.Turns.{KeepsAll, RefusesReport, TakesReport, TakesReports}

pub keeps_none : (a : Option (List Receipt)) → KeepsAll a [] a
keeps_none None = refl
keeps_none (Some kept) = inl (ap Some (sym (append-nil kept)))

pub keeps_one : (a b : Option (List Receipt)) (r : Receipt) → AddsTo a r b → KeepsAll a (r ∷ []) b
keeps_one None b r p = p
keeps_one (Some kept) b r (inl e) = inl e
keeps_one (Some kept) b r (inr e) = inr (e, omega arith)

keeps_after : (kept xs ys : List Receipt) (c : Option (List Receipt)) → KeepsAll (Some (kept ++ xs)) ys c → KeepsAll (Some kept) (xs ++ ys) c
keeps_after kept xs ys c (inl e) = inl (e ∙ ap Some (append_assoc kept xs ys))
keeps_after kept xs ys c (inr e) = inr (e.0, omega (arith, e.1, length-append xs ys))

-- receipts, followed by others
pub keeps_more : (a b c : Option (List Receipt)) (xs ys : List Receipt) → KeepsAll a xs b → KeepsAll b ys c → KeepsAll a (xs ++ ys) c
keeps_more None b c xs ys p q = subst (λ (o : Option (List Receipt)). KeepsAll o ys c) p q
keeps_more (Some kept) b c xs ys (inl e) q = keeps_after kept xs ys c (subst (λ (o : Option (List Receipt)). KeepsAll o ys c) e q)
keeps_more (Some kept) b c xs ys (inr e) q = inr (subst (λ (o : Option (List Receipt)). KeepsAll o ys c) e.0 q, omega (arith, e.1, length-append xs ys))

-- the reports of records, followed by those of others
pub takes_more : (port : ℕ) (xs ys : List UpRecord) (rs ss : List Receipt) (ts us : List Refusal) → TakesReports port xs rs ts → TakesReports port ys ss us → TakesReports port (xs ++ ys) (rs ++ ss) (ts ++ us)
takes_more port [] ys rs ss ts us p q =
    subst (λ (t : List Receipt). TakesReports port ys (t ++ ss) (ts ++ us)) (sym p.0) (subst (λ (t : List Refusal). TakesReports port ys ss (t ++ us)) (sym p.1) q)
takes_more port (x ∷ xs) ys rs ss ts us (inl p) q = inl (p.0, takes_more port xs ys rs ss ts us p.1 q)
takes_more port (x ∷ xs) ys rs ss ts us (inr (inl p)) q = inr (inl (p.0, p.1 ++ ss, ap (λ (t : List Receipt). t ++ ss) p.2, p.3, takes_more port xs ys p.1 ss ts us p.4 q))
takes_more port (x ∷ xs) ys rs ss ts us (inr (inr p)) q = inr (inr (p.0, p.1 ++ us, ap (λ (t : List Refusal). t ++ us) p.2, p.3, takes_more port xs ys rs ss p.1 us p.4 q))

pub takes_one : (port : ℕ) (burst : UpRecord) (r : Receipt) → TakesReport port burst r → TakesReports port (burst ∷ []) (r ∷ []) []
takes_one port burst r t = inr (inl (r, [], refl, t, (refl, refl)))

pub takes_garbled : (port : ℕ) (burst : UpRecord) → is_garbled burst ≡ true → TakesReports port (burst ∷ []) [] []
takes_garbled port burst garbled = inl (garbled, (refl, refl))

pub takes_refused : (port : ℕ) (burst : UpRecord) (told : Refusal) → RefusesReport burst told → TakesReports port (burst ∷ []) [] (told ∷ [])
takes_refused port burst told t = inr (inr (told, [], refl, t, (refl, refl)))

-- the receipt of a map, followed by those of its reports
pub keeps_first : (a b c d : Option (List Receipt)) (r : Receipt) (rs : List Receipt) → b ≡ a → AddsTo b r c → KeepsAll c rs d → KeepsAll a (r ∷ rs) d
keeps_first a b c d r rs same first more = keeps_more a c d (r ∷ []) rs (keeps_one a c r (subst (λ (o : Option (List Receipt)). AddsTo o r c) same first)) more

-- the seat is unchanged
pub keeps_same : (a b : SeatState) → b ≡ a → KeepsAll a.receipts [] b.receipts
keeps_same a b same = subst (λ (s : SeatState). KeepsAll a.receipts [] s.receipts) (sym same) (keeps_none a.receipts)
