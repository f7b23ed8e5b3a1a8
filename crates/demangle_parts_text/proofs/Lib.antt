mod CutLaws
mod HeardLaws
mod ItemLaws
mod MarkLaws
mod WalkLaws
mod FrontLaws
mod DivideLaws
