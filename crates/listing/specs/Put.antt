-- Text written over the bytes of a buffer.
--   overlay at t b   the bytes b with the text t from the place at on
--   Put at t b r c   the text t was written at a place of the bytes b, it ends at r, and c are the bytes then
--   Wrote t p q      the text t was written to the page p, which is then q
use Rattle.std.specs.Prelude.{◌≡◌, ℕ, ◌+◌, List, ◌++◌, length, take, drop}
use Rattle.listing.specs.declared.page.Page.{Page}

abbrev pub overlay : ℕ → List ℕ → List ℕ → List ℕ
overlay at t b = take at b ++ (t ++ drop (at + length t) b)

pub record Put (at : ℕ) (t b : List ℕ) (r : ℕ) (c : List ℕ) : Type 0 where
  pub end : r ≡ at + length t
  pub bytes : c ≡ overlay at t b

pub record Wrote (t : List ℕ) (p q : Page) : Type 0 where
  pub same : q.buffer.ghost_name ≡ p.buffer.ghost_name
  pub long : length q.buffer.now ≡ length p.buffer.now
  pub put : Put p.end t p.buffer.now q.end q.buffer.now
