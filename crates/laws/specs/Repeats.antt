-- How one course is judged without tables: all repeats of its round in one profile. Document 01 does not name these; what a judgement says
-- is `CourseAnswer`, and this is how it is reached. W is the number of states of the kind of model.
use Rattle.std.specs.Prelude.{ℕ, ◌<◌, ◌≡◌, Bool, true, ◌||◌, ◌↔◌}
use Rattle.laws.specs.Bits.{grid, times}
use Rattle.laws.specs.Profiles.{Profile, leads_to, marked, join, image, marks_a_round}

module _ (W : ℕ) where
  -- leads and marks where s or t does
  unfoldable pub union : Profile → Profile → Profile
  union s t =
      record {
        arrows = grid W (λ p q. leads_to W s p q || leads_to W t p q);
        marks = grid W (λ p q. marked W s p q || marked W t p q);
      }

  -- t marks only where it leads, as the profile of a word does
  abbrev pub MarksLed : Profile → Type 0
  MarksLed t = (p q : ℕ) → p < W → q < W → marked W t p q ≡ true → leads_to W t p q ≡ true

  -- c leads, and marks, exactly where t does, or two or more t joined; `times` with n joins n + 1 of them
  pub record Repeats (t c : Profile) : Type 0 where
    pub leads : (p q : ℕ) → p < W → q < W → (leads_to W c p q ≡ true) ↔ ((n : ℕ) × (leads_to W (times (join W) n t) p q ≡ true))
    pub marks : (p q : ℕ) → p < W → q < W → (marked W c p q ≡ true) ↔ ((n : ℕ) × (marked W (times (join W) n t) p q ≡ true))

  -- c leads some state back to itself with a mark, and that state is in P or in the set to which c leads P. P is for the set of the
  -- beginning, and c for all repeats of the round
  unfoldable pub accepted_from : ℕ → Profile → Bool
  accepted_from P c = marks_a_round W P c || marks_a_round W (image W P c) c
