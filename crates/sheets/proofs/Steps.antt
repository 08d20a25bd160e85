-- Calls one after the other.
use Rattle.std.proofs.Common.{◌≡◌, ℕ, suc, ◌+◌, ◌-◌, ◌<◌, List, [], ◌∷◌, ◌++◌, Ok, Err, Result, sym, refl, ap, ◌∙◌, append_assoc, arith}
use Rattle.premise.specs.declared.play.Call.{Call}
use Rattle.sheets.specs.declared.fault.SectionFault.{SectionFault}
use Rattle.sheets.specs.Lines.{then}
use Rattle.sheets.specs.Sections.{next_call, calls_of}

-- calls before those that come
abbrev pub after_calls : {F : Type 0} → List Call → Result (List Call × List (List ℕ)) F → Result (List Call × List (List ℕ)) F
after_calls cs (Ok t) = Ok (cs ++ t.0, t.1)
after_calls cs (Err e) = Err e

abbrev call_before : {F : Type 0} → Call → Result (List Call × List (List ℕ)) F → Result (List Call × List (List ℕ)) F
call_before c r = then r (λ u. Ok (c ∷ u.0, u.1))

after_before : {F : Type 0} (cs : List Call) (c : Call) (r : Result (List Call × List (List ℕ)) F) → after_calls cs (call_before c r) ≡ after_calls (cs ++ (c ∷ [])) r
after_before cs c (Ok t) = ap (λ (l : List Call). Ok (l, t.1)) (sym (append_assoc cs (c ∷ []) t.0))
after_before cs c (Err e) = refl

module _ (count k n : ℕ) (ls : List (List ℕ)) (cs : List Call) where
  more : k < count → calls_of (count - k) n ls ≡ then (next_call n ls) (λ t. call_before t.0 (calls_of (count - (k + 1)) (n + 1) t.1))
  more h = let e : count - k ≡ suc (count - (k + 1)) = omega (arith, h) in ap (λ m. calls_of m n ls) e

  -- one call more
  pub call_more : (c : Call) (rest : List (List ℕ)) → k < count → Ok (c, rest) ≡ next_call n ls → after_calls (cs ++ (c ∷ [])) (calls_of (count - (k + 1)) (n + 1) rest) ≡ after_calls cs (calls_of (count - k) n ls)
  call_more c rest h e =
      sym (after_before cs c (calls_of (count - (k + 1)) (n + 1) rest))
      ∙ ap (λ r. after_calls cs (then r (λ t. call_before t.0 (calls_of (count - (k + 1)) (n + 1) t.1)))) e
      ∙ ap (after_calls cs) (sym (more h))

  pub call_fault : (f : SectionFault) → k < count → Err f ≡ next_call n ls → Err f ≡ after_calls cs (calls_of (count - k) n ls)
  call_fault f h e =
      ap (λ r. after_calls cs (then r (λ t. call_before t.0 (calls_of (count - (k + 1)) (n + 1) t.1)))) e
      ∙ ap (after_calls cs) (sym (more h))
