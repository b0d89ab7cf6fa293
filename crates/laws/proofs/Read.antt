-- Of the slice of arrows only the first k numbers are read: with k there, the machine of a model and what is refused of it depend on no
-- other, and so does every answer.
use Prim.Native.Nat.{ℕ, ◌<◌, ◌≤◌}
use mathlib.Core.Path.{◌≡◌, refl, sym, ap, ap₂, ◌∙◌, subst, fun_ext}
use mathlib.Core.Bool.{Bool, true, false, ◌&&◌, and-false}
use mathlib.Core.List.{List, ◌++◌}
use lib.ListN.{length, take, get_or}
use lib.Seq.{get_or-take}
use lib.Dec.{ltb}
use borrow.Author.Tests.{ltb-true, le-ltb}
use Rattle.laws.specs.Bits.{cell}
use Rattle.laws.specs.Words.{Word}
use Rattle.laws.specs.Model.{Kind, Model, is_state, leads, machine, Accepted}
use Rattle.laws.specs.Refusals.{first_of, model_checks, word_checks, course_checks}
use Rattle.laws.specs.Tables.{Entry}
use Rattle.laws.specs.Profiles.{Profile, HoldsSets, HoldsProfiles}
use Rattle.laws.specs.Answers.{closing_answer, closing_of, opposite_from, opposite_answer, CourseAnswer}
use Rattle.laws.proofs.Complete.{sets_closing, profiles_closing}
use Rattle.laws.proofs.Answered.{closing_listed}

-- the model with another slice of arrows
abbrev pub with_arrows : Model → List ℕ → Model
with_arrows m arrows = record { n = m.n; k = m.k; start = m.start; home = m.home; arrows = arrows }

module _ (m : Model) (arrows : List ℕ) (same : take m.k m.arrows ≡ take m.k arrows) where
  -- the numbers of the events are the same
  pub event_same : (a : ℕ) → a < m.k → get_or m.arrows a 0 ≡ get_or arrows a 0
  event_same a l = sym (get_or-take m.k m.arrows a 0 l) ∙ ap (λ xs. get_or xs a 0) same ∙ get_or-take m.k arrows a 0 l

  -- so every arrow is
  leads_same : (W p a q : ℕ) → leads W m p a q ≡ leads W (with_arrows m arrows) p a q
  unfolding leads is_state
  leads_same W p a q = go (ltb a m.k) refl
    where
      go : (b : Bool) → ltb a m.k ≡ b
          → (ltb p m.n && ltb q m.n && ltb a m.k && cell W (get_or m.arrows a 0) p q)
          ≡ (ltb p m.n && ltb q m.n && ltb a m.k && cell W (get_or arrows a 0) p q)
      go true e = ap (λ x. ltb p m.n && ltb q m.n && ltb a m.k && cell W x p q) (event_same a (ltb-true a m.k e))
      go false e = rw (e, and-false (ltb p m.n && ltb q m.n))

  machine_same : (W : ℕ) → machine W m ≡ machine W (with_arrows m arrows)
  unfolding machine is_state
  machine_same W =
      ap (λ (f : ℕ → ℕ → ℕ → Bool). record { start = (machine W m).start; home = (machine W m).home; arrow = f })
      (fun_ext (λ p. fun_ext (λ a. fun_ext (λ q. leads_same W p a q))))

  module _ (K : Kind) (here : m.k ≤ length m.arrows) (there : m.k ≤ length arrows) where
    checks_same : model_checks K m ≡ model_checks K (with_arrows m arrows)
    unfolding model_checks
    checks_same = rw (le-ltb (length m.arrows) m.k here, le-ltb (length arrows) m.k there, same)

    -- ONE COURSE is judged by the first k numbers alone
    pub course_by_numbers : (u v : Word) (n : ℕ) (b : Bool) → CourseAnswer K m u v n b → CourseAnswer K (with_arrows m arrows) u v n b
    unfolding course_checks
    course_by_numbers u v n b c =
        record {
          number_is = c.number_is ∙ ap (λ checks. (first_of (checks ++ word_checks m.k u v)).number) checks_same;
          yes_with_0 = c.yes_with_0;
          yes_only_if = λ h. subst (λ M. Accepted M u v) (machine_same K.states) (c.yes_only_if h);
          yes_if = λ z a. c.yes_if z (subst (λ M. Accepted M u v) (sym (machine_same K.states)) a);
        }

    -- what is listed for all sets and all profiles is the same
    listed_same : (a b : ℕ) (sets : List (Entry ℕ)) (profiles : List (Entry Profile))
        → closing_of K m a b sets profiles ≡ closing_of K (with_arrows m arrows) a b sets profiles
    unfolding closing_of
    listed_same a b sets profiles = rw (ap (λ checks. (first_of checks).number) checks_same, closing_of)

    -- THE ANSWER OF CLOSING is the same
    pub first_numbers : (a b : ℕ) → closing_answer K m a b ≡ closing_answer K (with_arrows m arrows) a b
    first_numbers a b =
        let W = K.states in
        let sets = sets_closing W (machine W m) m.k in
        let profiles = profiles_closing W (machine W m) m.k in
        closing_listed K m a b sets.complete sets.holds profiles.complete profiles.holds
        ∙ listed_same a b sets.complete profiles.complete
        ∙ sym
        (closing_listed K (with_arrows m arrows) a b
        sets.complete (subst (λ M. HoldsSets W M m.k sets.complete) (machine_same W) sets.holds)
        profiles.complete (subst (λ M. HoldsProfiles W M m.k profiles.complete) (machine_same W) profiles.holds))

    -- THE OPPOSITE is the same
    pub opposite_by_numbers : (a b s r : ℕ) → opposite_answer K m a b s r ≡ opposite_answer K (with_arrows m arrows) a b s r
    unfolding opposite_answer
    opposite_by_numbers a b s r =
        ap₂ (λ M c. opposite_from K.states M m.k c s r) (machine_same K.states) (first_numbers a b)
