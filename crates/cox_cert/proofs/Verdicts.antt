-- A text has at most one verdict: it is a proof, or one cause is the first.
use Rattle.std.proofs.Common.{◌≡◌, ℕ, List, refl, subst}
use Rattle.cox_cert.specs.declared.status.Cause.{Cause}
use Rattle.cox_cert.specs.declared.status.Cause.TheVariants.{Grammar, Top, Interval, Size, Row}
use Rattle.cox_certtext.specs.Certificate.{Certificate, Gives}
use Rattle.cox_cert.specs.Causes.{HasTop, HasInterval, HasSmall, HasRow, IsFirstCause, IsProof}
use Rattle.cox_cert.proofs.Certificates.{gives-one}

-- what holds of one certificate with these lines holds of each
clash : (lines : List (List ℕ)) (P : Certificate → Type 0) (c d : Certificate) → Gives lines c → Gives lines d → (P c → ⊥) → P d → ⊥
clash lines P c d c_gives d_gives fails holds = fails (subst P (gives-one lines d c d_gives c_gives) holds)

-- no cause applies to a proof
pub no_cause : (lines : List (List ℕ)) → IsProof lines → (cause : Cause) → IsFirstCause cause lines → ⊥
no_cause lines proof Grammar first = first proof.certificate proof.gives
no_cause lines proof Top first = clash lines HasTop first.0 proof.certificate first.1 proof.gives first.2 proof.top
no_cause lines proof Interval first = clash lines HasInterval first.0 proof.certificate first.1 proof.gives first.3 proof.interval
no_cause lines proof Size first = clash lines HasSmall first.0 proof.certificate first.1 proof.gives first.4 proof.small
no_cause lines proof Row first = clash lines HasRow first.0 proof.certificate first.1 proof.gives first.5 proof.row

-- one cause is the first
pub first_cause-one : (lines : List (List ℕ)) (a b : Cause) → IsFirstCause a lines → IsFirstCause b lines → a ≡ b
first_cause-one lines Grammar Grammar a b = refl
first_cause-one lines Grammar Top a b = absurd (a b.0 b.1)
first_cause-one lines Grammar Interval a b = absurd (a b.0 b.1)
first_cause-one lines Grammar Size a b = absurd (a b.0 b.1)
first_cause-one lines Grammar Row a b = absurd (a b.0 b.1)
first_cause-one lines Top Grammar a b = absurd (b a.0 a.1)
first_cause-one lines Top Top a b = refl
first_cause-one lines Top Interval a b = absurd (clash lines HasTop a.0 b.0 a.1 b.1 a.2 b.2)
first_cause-one lines Top Size a b = absurd (clash lines HasTop a.0 b.0 a.1 b.1 a.2 b.2)
first_cause-one lines Top Row a b = absurd (clash lines HasTop a.0 b.0 a.1 b.1 a.2 b.2)
first_cause-one lines Interval Grammar a b = absurd (b a.0 a.1)
first_cause-one lines Interval Top a b = absurd (clash lines HasTop b.0 a.0 b.1 a.1 b.2 a.2)
first_cause-one lines Interval Interval a b = refl
first_cause-one lines Interval Size a b = absurd (clash lines HasInterval a.0 b.0 a.1 b.1 a.3 b.3)
first_cause-one lines Interval Row a b = absurd (clash lines HasInterval a.0 b.0 a.1 b.1 a.3 b.3)
first_cause-one lines Size Grammar a b = absurd (b a.0 a.1)
first_cause-one lines Size Top a b = absurd (clash lines HasTop b.0 a.0 b.1 a.1 b.2 a.2)
first_cause-one lines Size Interval a b = absurd (clash lines HasInterval b.0 a.0 b.1 a.1 b.3 a.3)
first_cause-one lines Size Size a b = refl
first_cause-one lines Size Row a b = absurd (clash lines HasSmall a.0 b.0 a.1 b.1 a.4 b.4)
first_cause-one lines Row Grammar a b = absurd (b a.0 a.1)
first_cause-one lines Row Top a b = absurd (clash lines HasTop b.0 a.0 b.1 a.1 b.2 a.2)
first_cause-one lines Row Interval a b = absurd (clash lines HasInterval b.0 a.0 b.1 a.1 b.3 a.3)
first_cause-one lines Row Size a b = absurd (clash lines HasSmall b.0 a.0 b.1 a.1 b.4 a.4)
first_cause-one lines Row Row a b = refl
