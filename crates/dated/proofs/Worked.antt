-- Worked files: what the definitions give for two dated files in each case of the choice, computed. They are samples/*.dated: days 255 and 256, of which
-- the later has the lower second byte, and cycles of sample B with 15; day 257, whose cycle part has a byte over; and a file of one byte.
use mathlib.Core.Path.{◌≡◌, refl}
use Prim.Native.Nat.{ℕ}
use mathlib.Core.List.{List, [], ◌∷◌}
use Rattle.std.specs.Prelude.{Ok, Err}
use Rattle.dated.specs.declared.InForce.TheVariants.{First, Second}
use Rattle.cyclefile.specs.File.{read_pair, read_pairs, read_count, read_cycle}
use Rattle.dated.specs.InForce.{read_dated, read_day, in_force, part_in_force}

-- (5, 3), (5, 2); sizes 3, 3, 2, 2; sizes 2, 2, 2, 3
abbrev good : List ℕ
good = 0 ∷ 2 ∷ 3 ∷ 0 ∷ 5 ∷ 0 ∷ 3 ∷ 2 ∷ 0 ∷ 2 ∷ []

abbrev full : List ℕ
full = 0 ∷ 4 ∷ 3 ∷ 0 ∷ 5 ∷ 0 ∷ 3 ∷ 0 ∷ 2 ∷ 0 ∷ 2 ∷ 0 ∷ []

abbrev thin : List ℕ
thin = 0 ∷ 4 ∷ 3 ∷ 0 ∷ 5 ∷ 0 ∷ 2 ∷ 0 ∷ 0 ∷ 2 ∷ 0 ∷ 3 ∷ []

abbrev day_255_good : List ℕ
day_255_good = 0 ∷ 255 ∷ good

abbrev day_256_full : List ℕ
day_256_full = 1 ∷ 0 ∷ full

abbrev day_256_thin : List ℕ
day_256_thin = 1 ∷ 0 ∷ thin

-- a byte follows the last pair
abbrev day_257_over : List ℕ
day_257_over = 1 ∷ 1 ∷ 0 ∷ 2 ∷ 3 ∷ 0 ∷ 5 ∷ 0 ∷ 3 ∷ 2 ∷ 0 ∷ 2 ∷ 0 ∷ []

abbrev no_whole_day : List ℕ
no_whole_day = 1 ∷ []

later_second : in_force day_255_good day_256_full ≡ Ok Second
unfolding in_force read_day read_dated read_cycle read_count read_pairs read_pair
later_second = refl

later_first : in_force day_256_full day_255_good ≡ Ok First
unfolding in_force read_day read_dated read_cycle read_count read_pairs read_pair
later_first = refl

part_of_the_first : part_in_force day_256_full day_255_good ≡ full
unfolding part_in_force in_force read_day read_dated read_cycle read_count read_pairs read_pair
part_of_the_first = refl

part_of_the_second : part_in_force day_255_good day_256_full ≡ full
unfolding part_in_force in_force read_day read_dated read_cycle read_count read_pairs read_pair
part_of_the_second = refl

equal_files : in_force day_255_good day_255_good ≡ Ok First
unfolding in_force read_day read_dated read_cycle read_count read_pairs read_pair
equal_files = refl

same_day : in_force day_256_full day_256_thin ≡ Err 29
unfolding in_force read_day read_dated read_cycle read_count read_pairs read_pair
same_day = refl

no_part : part_in_force day_256_full day_256_thin ≡ []
unfolding part_in_force in_force read_day read_dated read_cycle read_count read_pairs read_pair
no_part = refl

unreadable_first : in_force day_257_over day_255_good ≡ Ok Second
unfolding in_force read_day read_dated read_cycle read_count read_pairs read_pair
unreadable_first = refl

unreadable_second : in_force day_255_good day_257_over ≡ Ok First
unfolding in_force read_day read_dated read_cycle read_count read_pairs read_pair
unreadable_second = refl

first_number : in_force day_257_over no_whole_day ≡ Err 21
unfolding in_force read_day read_dated read_cycle read_count read_pairs read_pair
first_number = refl

first_number_18 : in_force no_whole_day day_257_over ≡ Err 18
unfolding in_force read_day read_dated read_cycle read_count read_pairs read_pair
first_number_18 = refl
