pub mod ServiceLaws
mod FreeLaws
mod SpanLists
mod GoodBlocks
mod PageLaws
mod RoomLaws
mod SpanLaws
