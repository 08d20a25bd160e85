-- What the decimal text of a number of 32 bits is like.
use Rattle.std.proofs.Common.{◌≡◌, ℕ, ◌^◌, ◌<◌, ◌≤◌, true, ◌&&◌, ltb, List, ◌++◌, map, length, get_or, take, drop, Some, None, decimal, Option, sym, refl, ap, ◌∙◌, subst, ⊎_elim, arith}
use Rattle.std.specs.Str.Parse.{digits_value, AllDigits}
use Rattle.std.specs.Int.{IsInRange}
use Rattle.std.specs.Char.{digit_value}
use Rattle.std.specs.Int.Digits.{number_from_digits}
use Rattle.std.proofs.lemmas.List.{take-append-drop, map-append}
use Rattle.std.proofs.lemmas.Int.Digits.{digits_value_is, number_after_append, number_after_ge}
use Rattle.std.proofs.lemmas.Str.Parse.{IsNumeralModel, numerals_by_value, tells_digits, digit_at}
use Rattle.std.proofs.lemmas.Fmt.{decimal_nonempty, decimal_digit, decimal-digits_value, first_decimal, digits_decimal, digits_value-decimal}
use Rattle.std.proofs.lemmas.Bool.{cases_eq, cond_both, lt-ltb, ltb-true, and_parts}
use Rattle.std.proofs.lemmas.Slice.Eq.{bytes_eq-Decides}
use Rattle.std.specs.Str.{bytes_eq}
use Rattle.fields.specs.Numbers.{number_of, Tells}
use Rattle.fields.proofs.Pieces.{Free, free_by_index}
use Rattle.std.proofs.lemmas.Option.{same_Some, none-some}

own : IsNumeralModel (AllDigits 10) (digits_value 10)
own = numerals_by_value (AllDigits 10) tells_digits

-- the number that the front of a text of digits writes is not above the whole
front_value : (bs : List ℕ) (k : ℕ) → digits_value 10 (take k bs) ≤ digits_value 10 bs
front_value bs k =
    let front = map digit_value (take k bs) in
    let back = map digit_value (drop k bs) in
    let whole : map digit_value bs ≡ front ++ back = ap (map digit_value) (sym (take-append-drop k bs)) ∙ map-append digit_value (take k bs) (drop k bs) in
    omega (arith, digits_value_is 10 (take k bs), digits_value_is 10 bs, ap (number_from_digits 10) whole, number_after_append 10 0 front back, number_after_ge 10 (number_from_digits 10 front) back (omega arith))

module _ (bs : List ℕ) (n : ℕ) (small : n < 2 ^ 32) (e : bs ≡ decimal n) where
  pub some_byte : 0 < length bs
  some_byte = subst (λ (t : List ℕ). 0 < length t) (sym e) (decimal_nonempty n (omega arith))

  all_digits : AllDigits 10 bs
  all_digits = subst (λ (t : List ℕ). AllDigits 10 t) (sym e) (digits_decimal own n (omega arith))

  -- a first zero stands alone
  pub zero_alone : get_or bs 0 0 ≡ 48 → length bs ≡ 1
  zero_alone z = ⊎_elim
      (λ none. ap length (e ∙ ap decimal none ∙ decimal_digit 0 (omega arith)))
      (λ some. absurd (omega (arith, first_decimal n (omega arith) (omega arith), ap (λ (t : List ℕ). get_or t 0 0) e)))
      (cases_eq n 0)

  pub digit_byte : (i : ℕ) → i < length bs → IsInRange 48 57 (get_or bs i 0)
  digit_byte i h = digit_at bs i all_digits h

  pub front_within : (k : ℕ) → digits_value 10 (take k bs) ≤ n
  front_within k = omega (arith, front_value bs k, ap (digits_value 10) e, digits_value-decimal own n (omega arith))

-- digits with no zero before others are the text of what they write
pub text_of_value : (bs : List ℕ) → AllDigits 10 bs → 0 < length bs → (get_or bs 0 0 ≡ 48 → length bs ≡ 1) → digits_value 10 bs < 2 ^ 32 → bs ≡ decimal (digits_value 10 bs)
text_of_value bs ds some alone small = sym (decimal-digits_value own bs ds some alone (omega arith))

-- the number told is the one that the field writes
module _ (bs : List ℕ) where
  writes_value : (n : ℕ) → n < 2 ^ 32 → bs ≡ decimal n → number_of bs ≡ Some n
  writes_value n small e =
      let v : digits_value 10 bs ≡ n = ap (digits_value 10) e ∙ digits_value-decimal own n (omega arith) in
      let w : bytes_eq bs (decimal n) ≡ true = (bytes_eq-Decides bs (decimal n)).1 e in
      let l : ltb n (2 ^ 32) ≡ true = lt-ltb n (2 ^ 32) small in
      rw (v, w, l) refl

  pub told : (o : Option ℕ) → Tells bs o → o ≡ number_of bs
  told (Some n) t = sym (writes_value n t.1 t.0)
  told None t =
      let v = digits_value 10 bs in
      let P : Option ℕ → Type 0 = λ o. None ≡ o in
      cond_both (ltb v (2 ^ 32) && bytes_eq bs (decimal v)) (Some v) None P
      (λ e. absurd (t v (ltb-true v (2 ^ 32) (and_parts _ _ e).0) ((bytes_eq-Decides bs (decimal v)).0 (and_parts _ _ e).1)))
      (λ e. refl)

  pub tells : (o : Option ℕ) → o ≡ number_of bs → Tells bs o
  tells (Some n) e =
      let v = digits_value 10 bs in
      let P : Option ℕ → Type 0 = λ o. Some n ≡ o → (bs ≡ decimal n) × (n < 2 ^ 32) in
      cond_both (ltb v (2 ^ 32) && bytes_eq bs (decimal v)) (Some v) None P
      (λ t w. rw (same_Some n v w) ((bytes_eq-Decides bs (decimal v)).0 (and_parts _ _ t).1, ltb-true v (2 ^ 32) (and_parts _ _ t).0))
      (λ t w. absurd (none-some n (sym w))) e
  tells None e = λ n small w. none-some n (e ∙ writes_value n small w)

-- digits alone
pub free_decimal : (d n : ℕ) → n < 2 ^ 32 → d < 48 → Free d (decimal n)
free_decimal d n small low = free_by_index d (decimal n) (λ i h e. omega (arith, e, low, (digit_byte (decimal n) n small refl i h).0))
