-- What calls gave, one for each job.
use Rattle.std.proofs.Common.{zero, suc, List, [], ◌∷◌, ◌++◌, refl, arith}
use Rattle.std.specs.List.{AllZip}
use Rattle.std.specs.Fork.{GivesJobs}
use Rattle.std.specs.Fn.{FnReturns}
use denote.Param.Members.{Shared}

-- .. is what each job's place gives
pub gives_each : {F J R : Type 0} (g : Shared F (J × Unit {0}) R) (f : F) (jobs : List J) (given : List R)
    → AllZip (λ job x. FnReturns g f (job, tt) x) jobs given → GivesJobs g f jobs given
gives_each g f [] given zip i d h = absurd (omega (arith, h))
gives_each g f (j ∷ jobs) [] zip i d h = absurd zip
gives_each g f (j ∷ jobs) (x ∷ given) zip zero d h = (refl, record { job = j; job_read = refl; job_is = λ _. refl; call = zip.0 })
gives_each g f (j ∷ jobs) (x ∷ given) zip (suc i) d h =
    let k = (gives_each g f jobs given zip.1 i d (omega (arith, h))).1 in
    (refl, record { job = k.job; job_read = k.job_read; job_is = k.job_is; call = k.call })

-- one more call
pub zip_more : {A B : Type 0} (R : A → B → Type 0) (xs : List A) (ys : List B) {x : A} {y : B} → AllZip R xs ys → R x y
    → AllZip R (xs ++ x ∷ []) (ys ++ y ∷ [])
zip_more R [] [] zip r = (r, tt)
zip_more R [] (y ∷ ys) zip r = absurd zip
zip_more R (x ∷ xs) [] zip r = absurd zip
zip_more R (x ∷ xs) (y ∷ ys) zip r = (zip.0, zip_more R xs ys zip.1 r)
