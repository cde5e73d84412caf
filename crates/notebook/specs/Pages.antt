-- The book that a notebook keeps, the calls whose place stands in it, and figures that are the same. Assumes nothing.
use Rattle.std.specs.Prelude.{◌≡◌, ℕ, Bool, true, ◌&&◌, map, length, Ok, Result, Vec, vec_items, ◌==◌, nat_lt, to_bits, Float}
use Rattle.std.specs.Float.{binary64}
use Rattle.std.specs.Fn.{Once, FnOnceReturnsAtMut}
use Rattle.std.specs.declared.alloc.AllocError.{AllocError}
use Rattle.std.specs.declared.alloc.Global.{Global}
use denote.Ref.{MutBor}
use Rattle.polygon.specs.declared.Point.{Point}
use Rattle.polygon.specs.declared.Figures.{Figures}
use Rattle.history.specs.Book.{Book, turned_to}
use Rattle.history.specs.declared.Call.{Call}
use Rattle.history.specs.declared.Call.TheVariants.{Add, Move, Drop, TakeBack, Measure}
use Rattle.notebook.specs.declared.pages.Notebook.{Notebook}

abbrev pub book_of : Notebook → Book
book_of n = record { standing = vec_items n.standing; past = map (λ points. vec_items points) n.past.items }

-- a call that names a place names that of a standing point
abbrev pub fitting : Book → Call → Bool
fitting b (Add lat lon) = true
fitting b (Move place lat lon) = nat_lt place (length b.standing)
fitting b (Drop place) = nat_lt place (length b.standing)
fitting b TakeBack = true
fitting b (Measure sign) = true

-- the same bits; NaN is one pattern
abbrev pub same_pattern : Float → Float → Bool
same_pattern x y = to_bits binary64 x == to_bits binary64 y

abbrev pub same_figures : Figures → Figures → Bool
same_figures a b = a.count == b.count && (same_pattern a.perimeter b.perimeter && same_pattern a.area b.area)

-- a call of f changed the standing points of a book, to which another turned
pub record Turns {F : Type 0} (g : Once F (MutBor (Vec Point Global) × Unit {0}) (Result (Unit {0}) AllocError × (MutBor (Vec Point Global) × Unit {0}))) (f : F) (most : ℕ) (b after : Book) : Type 0 where
  pub before : Vec Point Global
  pub points : Vec Point Global
  pub copied : vec_items before ≡ b.standing
  pub answer : Result (Unit {0}) AllocError
  pub done : answer ≡ Ok tt
  pub called : FnOnceReturnsAtMut g f before answer points
  pub turned : after ≡ turned_to most b (vec_items points)
