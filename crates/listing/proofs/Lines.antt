-- The lines of a listing: what is left of one, and how long one is.
use Rattle.std.proofs.Common.{◌≡◌, ℕ, ◌+◌, ◌*◌, ◌^◌, ◌<◌, ◌≤◌, Bool, true, false, List, [], ◌∷◌, ◌++◌, length, get_or, drop, decimal, sym, ap, ◌∙◌, subst, mul-one, mul-add, arith}
use Rattle.std.proofs.lemmas.List.{at_drop_more, length-append}
use Rattle.measures.specs.Entry.{kind_number}
use Rattle.measures.specs.declared.entry.Entry.{Entry}
use Rattle.measures.specs.declared.entry.Kind.{Kind}
use Rattle.measures.specs.declared.entry.Kind.TheVariants.{Actual, TrueUp, Estimated, PutOff, Corrected}
use Rattle.listing.specs.Listing.{space, fields, lines, mark_number, entry_numbers}
use Rattle.listing.specs.declared.page.Page.{Page}
use Rattle.listing.specs.Put.{Wrote}
use Rattle.listing.proofs.Numbers.{one_digit, three_at_most, five_at_most, ten_at_most}
use Rattle.listing.proofs.Puts.{wrote_then}

pub length_fields : (n : ℕ) (ns : List ℕ) → length (fields (n ∷ ns)) ≡ 1 + (length (decimal n) + length (fields ns))
length_fields n ns = omega (arith, length-append (decimal n) (fields ns))

-- one field more
module _ (ns : List ℕ) (i : ℕ) (h : i < length ns) where
  pub fields_more : fields (drop i ns) ≡ fields (get_or ns i 0 ∷ drop (i + 1) ns)
  fields_more = at_drop_more fields ns i 0 h

  pub fields_left : length (fields (drop i ns)) ≡ 1 + (length (decimal (get_or ns i 0)) + length (fields (drop (i + 1) ns)))
  fields_left = ap length fields_more ∙ length_fields (get_or ns i 0) (drop (i + 1) ns)

  pub put_field : (p q r e : Page) → Wrote (space ∷ []) p q → Wrote (decimal (get_or ns i 0)) q r → Wrote (fields (drop (i + 1) ns)) r e → Wrote (fields (drop i ns)) p e
  put_field p q r e a b rest =
      let n = get_or ns i 0 in
      let one : Wrote (space ∷ decimal n) p r = wrote_then (space ∷ []) (decimal n) q r a b in
      subst (λ t. Wrote t p e) (sym fields_more) (wrote_then (space ∷ decimal n) (fields (drop (i + 1) ns)) r e one rest)

-- one line more
module _ {X : Type 0} (line : X → List ℕ) (xs : List X) (i : ℕ) (x : X) (is : x ≡ get_or xs i x) (h : i < length xs) where
  pub put_line : (p q e : Page) → Wrote (line x) p q → Wrote (lines line (drop (i + 1) xs)) q e → Wrote (lines line (drop i xs)) p e
  put_line p q e a rest =
      let more : line x ++ lines line (drop (i + 1) xs) ≡ lines line (drop i xs) = ap (λ y. line y ++ lines line (drop (i + 1) xs)) is ∙ sym (at_drop_more (lines line) xs i x h) in
      subst (λ t. Wrote t p e) more (wrote_then (line x) (lines line (drop (i + 1) xs)) q e a rest)

-- the longest lines, from the longest fields

pub read_few : (kind kwh corrected : ℕ) → kind < 2 ^ 8 → kwh < 2 ^ 32 → corrected < 2 ^ 8 → length (fields (kind ∷ kwh ∷ corrected ∷ [])) ≤ 20
read_few kind kwh corrected h1 h2 h3 =
    omega (arith, length_fields kind (kwh ∷ corrected ∷ []), length_fields kwh (corrected ∷ []), length_fields corrected [], three_at_most kind h1, ten_at_most kwh h2, three_at_most corrected h3)

pub miss_few : (kind rung kwh : ℕ) → kind < 2 ^ 8 → rung < 2 ^ 8 → kwh < 2 ^ 32 → length (fields (kind ∷ rung ∷ kwh ∷ [])) ≤ 20
miss_few kind rung kwh h1 h2 h3 =
    omega (arith, length_fields kind (rung ∷ kwh ∷ []), length_fields rung (kwh ∷ []), length_fields kwh [], three_at_most kind h1, three_at_most rung h2, ten_at_most kwh h3)

pub refused_few : (n : ℕ) → n < 2 ^ 8 → length (fields (n ∷ [])) ≤ 5
refused_few n h = omega (arith, length_fields n [], three_at_most n h)

pub place_few : (line field number : ℕ) → line < 2 ^ 32 → field < 2 ^ 32 → number < 2 ^ 8 → length (fields (line ∷ field ∷ number ∷ [])) ≤ 27
place_few line field number h1 h2 h3 =
    omega (arith, length_fields line (field ∷ number ∷ []), length_fields field (number ∷ []), length_fields number [], ten_at_most line h1, ten_at_most field h2, three_at_most number h3)

kind_few : (k : Kind) → kind_number k < 10
kind_few Actual = omega arith
kind_few TrueUp = omega arith
kind_few Estimated = omega arith
kind_few PutOff = omega arith
kind_few Corrected = omega arith

mark_few : (b : Bool) → mark_number b < 10
mark_few true = omega arith
mark_few false = omega arith

pub entry_few : (e : Entry) (ns : List ℕ) → ns ≡ entry_numbers e → e.end_day < 2 ^ 16 → e.days < 2 ^ 8 → e.usage_days < 2 ^ 8 → e.rung < 2 ^ 8 → e.kwh < 2 ^ 32 → length (fields ns) ≤ 34
entry_few e ns is h1 h2 h3 h4 h5 =
    let kind = kind_number e.kind in
    let mark = mark_number e.initial in
    omega (
      arith,
      ap (λ l. length (fields l)) is,
      length_fields e.end_day (e.days ∷ e.usage_days ∷ kind ∷ e.rung ∷ mark ∷ e.kwh ∷ []),
      length_fields e.days (e.usage_days ∷ kind ∷ e.rung ∷ mark ∷ e.kwh ∷ []),
      length_fields e.usage_days (kind ∷ e.rung ∷ mark ∷ e.kwh ∷ []),
      length_fields kind (e.rung ∷ mark ∷ e.kwh ∷ []),
      length_fields e.rung (mark ∷ e.kwh ∷ []),
      length_fields mark (e.kwh ∷ []),
      length_fields e.kwh [],
      five_at_most e.end_day h1,
      three_at_most e.days h2,
      three_at_most e.usage_days h3,
      one_digit kind (kind_few e.kind),
      three_at_most e.rung h4,
      one_digit mark (mark_few e.initial),
      ten_at_most e.kwh h5,
    )

pub times_more : (m i : ℕ) → m * (i + 1) ≡ m * i + m
times_more m i = mul-add m i 1 ∙ ap (λ k. m * i + k) (mul-one m)
