-- What a write to the tail of a list leaves behind.
use Rattle.std.proofs.Common.{◌≡◌, ℕ, ◌-◌, ◌≤◌, List, ◌++◌, length, take, drop, arith, length-take, length-drop}
use Rattle.std.proofs.lemmas.List.{drop_all, append-nil}
use Rattle.std.proofs.Math.Seq.{drop-append_seam}
use borrow.Rule.Slice.PartMut.{put_mid}

pub tail_of : {a : ℕ} (xs ys : List ℕ) → a ≤ length xs → length ys ≡ length xs - a → drop a (put_mid a (length xs - a) xs ys) ≡ ys
tail_of {a} xs ys inside len =
    let front : a ≡ length (take a xs) = simp length-take (omega arith) in
    cc (
      drop-append_seam (take a xs) (ys ++ drop (length xs - a) (drop a xs)),
      (drop_all (length xs - a) (drop a xs) (simp length-drop (omega arith))),
      append-nil ys,
    )
