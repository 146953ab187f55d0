pub mod PaddedPush
