mod PlayLaws
mod ToldListLaws
mod SegmentFieldLaws
