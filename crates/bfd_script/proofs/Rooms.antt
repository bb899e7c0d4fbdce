-- Room that is filled from its end to its front.
use Rattle.bfd_script.proofs.Common.{◌≡◌, ℕ, ◌+◌, ◌≤◌, List, ◌++◌, length, take, drop}
use Rattle.std.proofs.lemmas.List.{drop_at, drop-drop, length-take-le}
use borrow.Rule.Slice.PartMut.{put_mid}

-- what stands from the place on where a word was put
pub put_at : (a k e : ℕ) (xs ys : List ℕ) {word : List ℕ} → a ≤ length xs → a + k ≡ e → ys ≡ word
    → drop a (put_mid a k xs ys) ≡ word ++ drop e xs
put_at a k e xs ys long sum is = cc (drop_at (take a xs) (ys ++ drop k (drop a xs)) a (length-take-le a xs long), drop-drop k a xs)
