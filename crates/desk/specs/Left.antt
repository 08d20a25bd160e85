-- The pieces of some bytes that are still to come.
--   left p                  the pieces that p still yields
--   without_last_end bs     an input without the LF at its end, if it has one
use Rattle.std.specs.Prelude.{ℕ, ◌-◌, cond, List, [], length, take, Some, None, Option, ◌==◌, ◌&&◌, nat_lt, slice_index}
use Rattle.std.specs.Borrow.{Bor}
use Rattle.fields.specs.Pieces.{pieces}
use Rattle.desk.specs.declared.pieces.Pieces.{Pieces}

abbrev pub pieces_if_any : ℕ → Option (Bor (List ℕ)) → List (List ℕ)
pieces_if_any c None = []
pieces_if_any c (Some rest) = pieces c rest.now

abbrev pub left : Pieces → List (List ℕ)
left p = pieces_if_any p.separator p.rest

abbrev pub without_last_end : List ℕ → List ℕ
without_last_end bs = cond (nat_lt 0 (length bs) && (slice_index bs (length bs - 1) == 10)) (take (length bs - 1) bs) bs
