-- Who may have which share of a place.
use Rattle.std.proofs.Common.{◌≡◌, ℕ, false, refl, sym, ◌∙◌}
use Rattle.seqpool.specs.Pool.{Phase, with, published, home, retired}
use Rattle.steplaws.specs.Facts.{is_home}
use Rattle.poolsteps.specs.declared.view.Stored.{Stored}
use Rattle.poolsteps.specs.Shares.{MayHave, HasAll, IsKept}

-- two lanes that may have one share are one lane
pub one-holder : (last l m number : ℕ) (f : Phase) → MayHave last l number f → MayHave last m number f → l ≡ m
one-holder last l m number (with owner) mine other = sym mine ∙ other
one-holder last l m number (published content references mark) mine other = sym mine.0 ∙ other.0
one-holder last l m number home mine other = absurd mine
one-holder last l m number retired mine other = sym mine ∙ other

-- a lane that has all shares may have each
pub all-may : (last lane number : ℕ) (f : Phase) → HasAll last lane f → MayHave last lane number f
all-may last lane number (with owner) all = all
all-may last lane number (published content references mark) all = absurd all
all-may last lane number home all = absurd all
all-may last lane number retired all = all

-- and no other lane may have any
pub all-holder : (last l m number : ℕ) (f : Phase) → HasAll last l f → MayHave last m number f → l ≡ m
all-holder last l m number f all other = one-holder last l m number f (all-may last l number f all) other

-- of the cell of a place whose shares one lane has nothing is asked
pub all-kept : (last lane room : ℕ) (c : Stored) (f : Phase) → HasAll last lane f → IsKept c room f
all-kept last lane room c (with owner) all = tt
all-kept last lane room c (published content references mark) all = absurd all
all-kept last lane room c home all = absurd all
all-kept last lane room c retired all = tt

-- no lane may have a share of a home place
pub may-away : (last lane number : ℕ) (f : Phase) → MayHave last lane number f → is_home f ≡ false
may-away last lane number (with owner) may = refl
may-away last lane number (published content references mark) may = refl
may-away last lane number home may = absurd may
may-away last lane number retired may = refl
