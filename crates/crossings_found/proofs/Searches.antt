-- All columns are enough for some rows.
use mathlib.Core.Path.{◌≡◌, subst}
use Rattle.list_words.specs.Lists.{up_to}
use Rattle.solids.specs.Solids.{Solid}
use Rattle.solids.proofs.Admitted.{Passed}
use Rattle.bounds.specs.Words.{many}
use Rattle.crossing_rows.specs.Words.{row, count_of, row_of, crossing}
use Rattle.crossing_rows.proofs.Rowwise.{row_all}
use Rattle.crossing_groups.specs.declared.Search.{Search}
use Rattle.crossing_groups.specs.Words.{Searching, Enough}

module _ (a b : Solid) (passed_a : Passed a) (passed_b : Passed b) (q : Search) (h : Searching q a b) where
  pub enough_all : Enough q a b (up_to q.many)
  enough_all r from to =
      rw h.many (subst (λ t. crossing q.sign (count_of (row_of a r) b) (up_to (many t b)) ≡ row q.sign a b r) (h.kind r from to) (row_all a b r q.sign))
