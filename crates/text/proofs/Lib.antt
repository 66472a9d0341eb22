mod PutLaws
mod RowsLaws
